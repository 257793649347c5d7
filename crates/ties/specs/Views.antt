-- What a `Ties` stands for. Assumes nothing.
use Rattle.std.specs.Prelude.{List, vec_items}
use Rattle.order.specs.declared.literal.Literal.{Literal}
use Rattle.ties.specs.declared.classes.Ties.{Ties}

-- the roots of its bits
abbrev pub roots_of : Ties → List Literal
roots_of t = vec_items t.roots
