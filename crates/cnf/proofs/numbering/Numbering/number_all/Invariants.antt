use Rattle.std.proofs.Common.{◌≡◌, true, map, take, vec_items, vec_len}
use Rattle.cnf.specs.Encoded.{root_in, bits_in}
use Rattle.cnf.specs.Numbered.{all_there, lit}
use Rattle.cnf.proofs.numbering.Numbering.number_all.Given as goal

abbrev pub invariant-loop-l : goal.invariant-loop-l
invariant-loop-l g l = record {
  value : all_there (bits_in l.self) l.literals ≡ true → vec_items l.room.literals ≡ map (lit (root_in l.self)) (take l.l-index l.literals);
  long : vec_len l.room.literals ≡ l.l-index;
}
