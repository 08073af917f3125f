-- Numbers below 65,536 in decimal and in hex.
use Rattle.std.specs.Prelude.{ℕ, ◌+◌, ◌/◌, ◌%◌, cond, List, [], ◌∷◌, ◌++◌, ltb}

abbrev pub digit : ℕ → ℕ
digit d = 48 + d

-- the digit of n for the power of ten p, and nothing where n is below p
unfoldable pub place_text : ℕ → ℕ → List ℕ
place_text p n = cond (ltb n p) [] (digit (n / p % 10) ∷ [])

-- in decimal: a digit for each power of ten that the number reaches, so no zeros in front, and the last digit
unfoldable pub decimal : ℕ → List ℕ
decimal n = place_text 10000 n ++ place_text 1000 n ++ place_text 100 n ++ place_text 10 n ++ (digit (n % 10) ∷ [])

-- "four lower-case hex digits"
abbrev pub hex_digit : ℕ → ℕ
hex_digit d = cond (ltb d 10) (48 + d) (87 + d)

abbrev pub four_hex : ℕ → List ℕ
four_hex n = hex_digit (n / 4096 % 16) ∷ hex_digit (n / 256 % 16) ∷ hex_digit (n / 16 % 16) ∷ hex_digit (n % 16) ∷ []
