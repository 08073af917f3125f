-- What each rule asks a block to be at most, runs bring to that block: so lowering blocks to it keeps a sheet attained.
use mathlib.Core.Path.{◌≡◌}
use mathlib.Core.Logic.{inl, inr}
use mathlib.Core.Bool.{Bool, true}
use Prim.Native.Nat.{ℕ, suc, ◌<◌}
use Rattle.model.specs.Machine.{Uncaught}
use Rattle.model.specs.Rounds.{whole_rounds, earlier_rounds}
use Rattle.model.specs.Rules.{Sheet, Reached, Rounds, rule1, rule2, rule3, rule4, rule5, rule6, rule7, rule8, rule9, rule10}
use Rattle.model.proofs.Setting.{Setting, then_low}
use Rattle.model.proofs.Rounds.{Before, whole_hit, earlier_hit}
use Rattle.model.proofs.Attained.{Attained, MethodHit, NodeHit, ExitHit, hit_weaker, method_asked, node_asked, exit_asked}

module _ (S : Setting) (T : Sheet S.W) (A : Attained S T) where
  open S use {W, G, step, opening}
  open W use {Effect, apply, nothing, then}
  open G use {methods, entry, method, repeats, Goes, Call, Return, Throw, Flow, Calls, Catch}
  open S.formed use {calls_inside, some_repeats}
  open T use {stock, Exit, exit, Node, node}

  pub at_start : MethodHit S 0 opening
  at_start = method_asked S T A rule1

  pub at_entry : (m : ℕ) → m < methods → NodeHit S (entry m) nothing
  at_entry m lt = node_asked S T A (rule2 lt)

  pub along_flow : (n n' : ℕ) → Goes n → Node n → Flow n n' → NodeHit S n' (then (node n) (step n))
  along_flow n n' g y f = node_asked S T A (rule3 g y f)

  pub to_handler : (n e h : ℕ) → Throw n e → Node n → Catch n e h → NodeHit S h (node n)
  to_handler n e h t y c = node_asked S T A (rule4 t y c)

  pub at_return : (n : ℕ) → Return n → Node n → ExitHit S (method n) 0 (node n)
  at_return n t y = exit_asked S T A (rule5 t y)

  pub at_throw : (n e : ℕ) → Throw n e → Node n → Uncaught G n e → ExitHit S (method n) (suc e) (node n)
  at_throw n e t y u = exit_asked S T A (rule6 t y u)

  -- `returns m` tells whether exit 0 of the method m is marked: rules 7 to 10 are asked once, of the lowest of the rounds.
  module _ (returns : ℕ → Bool) (marked-of : (m : ℕ) → m < methods → returns m ≡ true → Exit m 0) where
    abbrev whole : ℕ → ℕ → Effect
    whole c m = whole_rounds W (node c) (exit m 0) (repeats c)

    abbrev earlier : ℕ → ℕ → Effect
    earlier c m = earlier_rounds W (node c) (returns m) (exit m 0) (repeats c)

    -- the rules' way to count earlier rounds, from the test's
    rounds : {c m j : ℕ} → Calls c m → Before W S.laws (node c) (exit m 0) (returns m) (repeats c) j → Rounds W G step opening T c m j
    rounds {c} {m} k (l, inl e) = (l, inl e)
    rounds {c} {m} k (l, inr x) = (l, inr (marked-of m (calls_inside c m k).1 x))

    pub after_call : (c m n' : ℕ) → Call c → Node c → Calls c m → Exit m 0 → Flow c n' → NodeHit S n' (whole c m)
    after_call c m n' ca y l x f i σ s =
        let h = whole_hit W S.laws (node c) (exit m 0) (repeats c) (some_repeats c ca) i s in
        hit_weaker S h.3 (node_asked S T A (rule7 ca y l x f h.0 h.1 h.2) i σ s)

    pub into_call : (c m : ℕ) → Call c → Reached W G T c → Calls c m → MethodHit S m (apply (earlier c m) (stock (method c)))
    into_call c m ca y l i =
        let h = earlier_hit W S.laws (node c) (exit m 0) (returns m) (repeats c) (some_repeats c ca) i (stock (method c)) in
        hit_weaker S h.2 (method_asked S T A (rule8 ca y l h.0 (rounds l h.1)) i)

    pub from_call : (c m e k : ℕ) → Call c → Node c → Calls c m → Exit m (suc e) → Catch c e k → NodeHit S k (then (earlier c m) (exit m (suc e)))
    from_call c m e k ca y l x t i σ s =
        let h = earlier_hit W S.laws (node c) (exit m 0) (returns m) (repeats c) (some_repeats c ca) i s in
        hit_weaker S (then_low W S.laws _ (earlier c m) (exit m (suc e)) i s h.2)
        (node_asked S T A (rule9 ca y l x t h.0 (rounds l h.1)) i σ s)

    pub through_call : (c m e : ℕ) → Call c → Node c → Calls c m → Exit m (suc e) → Uncaught G c e → ExitHit S (method c) (suc e) (then (earlier c m) (exit m (suc e)))
    through_call c m e ca y l x u i σ s =
        let h = earlier_hit W S.laws (node c) (exit m 0) (returns m) (repeats c) (some_repeats c ca) i s in
        hit_weaker S (then_low W S.laws _ (earlier c m) (exit m (suc e)) i s h.2)
        (exit_asked S T A (rule10 ca y l x u h.0 (rounds l h.1)) i σ s)
