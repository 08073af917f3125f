mod Above
