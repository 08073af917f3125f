-- Which nodes break a profile.
use Rattle.std.specs.Prelude.{ℕ, List}
use Rattle.profile_looks.specs.declared.Profile.{Profile}
use Rattle.profile_looks.specs.declared.Profile.TheVariants.{OneShot, Session}
use Rattle.profile.specs.Profile.{BreaksOneShot, BreaksSession}

abbrev pub Breaks : List ℕ → Profile → ℕ → Type 0
Breaks f OneShot = BreaksOneShot f
Breaks f Session = BreaksSession f
