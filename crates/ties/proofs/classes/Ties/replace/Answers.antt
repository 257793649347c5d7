use Rattle.std.proofs.Common.{sym, ap, subst}
use Rattle.ties.specs.Roots.{root_at, Lower, Named, Fixed, Merged}
use Rattle.ties.proofs.Moves.{lower_map, named_map, fixed_map, merged_map}
use Rattle.ties.proofs.Refills.{refilled_map}
use Rattle.ties.proofs.classes.Ties.replace.Goals as goal

pub invariant_of-self : goal.invariant_of-self
invariant_of-self c =
    let self = c.args.self.now in
    let after = ap root_at (sym (refilled_map self.roots _ _ _ c.replace_all.ensures c.deref_mut.ensures.value)) in
    record {
      short = self.short;
      lower = subst Lower after (lower_map c.requires self.lower);
      named = subst Named after (named_map c.requires self.named);
      fixed = subst Fixed after (fixed_map c.requires self.fixed);
    }

pub returns : goal.returns
returns c =
    let self = c.args.self.now in
    let after = sym (refilled_map self.roots _ _ _ c.replace_all.ensures c.deref_mut.ensures.value) in
    subst (Merged self.roots.items c.args.old c.args.new) after (merged_map c.requires self.fixed)
