-- The packed number that the loader gets back says the answer.
use Rattle.std.specs.Prelude.{ℕ, ◌≡◌, List}
use Rattle.answer.specs.declared.Answer.{Answer}
use Rattle.answer.specs.Number.{packed_of}
use Rattle.graph_nodes.specs.Program.{Safe}
use Rattle.profile.specs.Profile.{Profiled, BreaksOneShot, BreaksSession}
use Rattle.accept.specs.Meaning.{Checks}
use Rattle.accept.specs.Many.{ChecksMany, SafeRow}
use Rattle.work.specs.Meaning.{WorksOut}
use Rattle.work_queued.specs.Meaning.{WorksQueued}
use Rattle.listing.specs.Lists.{Lists}

-- of work out: s is the lent sheet before and r after
pub record WorkedOut (f s r : List ℕ) (n : ℕ) : Type 0 where
  pub answer : Answer
  pub works : WorksOut f s r answer
  pub packed : n ≡ packed_of answer

-- of work out by the queue engine: the lent area was b and is c
pub record WorkedQueued (f s r b c : List ℕ) (n : ℕ) : Type 0 where
  pub answer : Answer
  pub queued : WorksQueued f s r b c answer
  pub packed : n ≡ packed_of answer

-- of check; the number 0 is given for no graph that has a run that overdraws
pub record Checked (f s : List ℕ) (n : ℕ) : Type 0 where
  pub answer : Answer
  pub checks : Checks f s answer
  pub safe : Safe f answer
  pub packed : n ≡ packed_of answer

-- of the check of many sheets: the lent row was w and is r; where a sheet's number in it is 0, no run of that graph overdraws
pub record CheckedMany (f s w r : List ℕ) (n : ℕ) : Type 0 where
  pub answer : Answer
  pub checks : ChecksMany f s w r answer
  pub safe : SafeRow f r answer
  pub packed : n ≡ packed_of answer

-- of one-shot; the number 0 is given for no graph that has a run that overdraws
pub record OneShot (f : List ℕ) (n : ℕ) : Type 0 where
  pub answer : Answer
  pub means : Profiled f (BreaksOneShot f) answer
  pub safe : Safe f answer
  pub packed : n ≡ packed_of answer

-- of session
pub record Session (f : List ℕ) (n : ℕ) : Type 0 where
  pub answer : Answer
  pub means : Profiled f (BreaksSession f) answer
  pub packed : n ≡ packed_of answer

-- of the listing: the lent sheet was s and is r, the lent output was o and is q
pub record ListedOut (f s r o q : List ℕ) (n : ℕ) : Type 0 where
  pub answer : Answer
  pub length : ℕ
  pub lists : Lists f s r o q answer length
  pub packed : n ≡ packed_of answer
