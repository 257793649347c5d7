use Rattle.std.proofs.Common.{[], ◌∷◌, map, refl, ap, ◌∙◌, sym}
use Rattle.cnf.specs.Encoded.{encoder_root}
use Rattle.cnf.specs.Numbered.{lit}
use Rattle.cnf.proofs.Inside.{kept_there}
use Rattle.cnf.proofs.encode.Encoder.encode.Goals as goal

pub returns : goal.returns
returns g c =
    let self = c.args.self.now in
    let rs = self.variables.now.ranges.items in
    let f = encoder_root self in
    let reduced = c.in_ok-literals.ensures.value in
    let there = kept_there rs f (g.met.R.Roots.named self.numbering.roots.now) c.args.clause.now _ _ self.numbered reduced in (
      (refl, λ _. tt, record { variables = refl; numbering = refl }),
      record {
        kept = tt;
        written = λ short. ap (map (map (lit f))) reduced ∙ ap (λ x. x ∷ []) (sym (c.as_slice.ensures.value ∙ c.number_all.ensures there));
      },
    )
