use mathlib.Core.Path.{◌≡◌}
use borrow.Author.Rules.{rules}
use mathlib.Core.List.{List}
use Prim.Native.Nat.{ℕ}
use Rattle.answer.specs.declared.Answer.{Answer}
use Rattle.graph.specs.declared.Judgement.{Judgement}
use Rattle.graph.specs.Judgement.{judged_of}
use Rattle.words_digits.proofs.Join.{retext}
use Rattle.listing_first.specs.Listing.{listing_of}
use Rattle.listing.specs.Lists.{text_of}
use Rattle.listing.proofs.Pad.{pads, still_fits}
use Rattle.listing.proofs.tell.Goals as goal

-- the listing of the tables and the shape that were found
own-text : (f : List ℕ) {j : Judgement} (a : Answer) (s : List ℕ) → j ≡ judged_of f → listing_of a f j.tables j.shape s ≡ text_of f a s
own-text f a s e = λ i. listing_of a f (e i).tables (e i).shape s

pub put_listing-requires : goal.put_listing-requires
put_listing-requires c =
    let a = c.args in
    (c.requires.1, still_fits a.out.now c.blank.ensures (own-text a.f.now a.a a.s.now c.requires.0) c.requires.2)

pub returns : goal.returns
returns c =
    let a = c.args in
    let same = c.put_listing.ensures.same in
    let told = pads a.out.now c.blank.ensures (retext c.put_listing.ensures.puts (own-text a.f.now a.a a.s.now c.requires.0)) in
    (search rules, told.1)
