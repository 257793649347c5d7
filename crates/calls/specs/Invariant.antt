-- What is true of each job at all times, whatever calls it was given. Assumes nothing.
use Rattle.std.specs.Prelude.{◌≡◌, true, false, length}
use Rattle.ties.specs.Roots.{tied}
use Rattle.theory.specs.Closed.{Sound, Refused}
use Rattle.theory.specs.Rounds.{Rooted}
use Rattle.calls.specs.Catalogues.{Catalogue}
use Rattle.calls.specs.Jobs.{Seated}
use Rattle.calls.specs.Settles.{rules}
use Rattle.calls.specs.View.{View}

-- each row sits; roots come first in their classes; each closed set has the ties; and a void job has no closed set
pub record Invariant (k : Catalogue) (v : View) : Type 0 where
  pub beside : length v.declared ≡ length v.ranges
  pub seated : Seated k.meaning v.ranges v.rows
  pub rooted : Rooted v.root
  pub sound : v.void ≡ false → Sound (rules k v) (tied v.root)
  pub refused : v.void ≡ true → Refused (rules k v)
