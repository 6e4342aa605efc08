use Rattle.std.proofs.Common.{◌≡◌, ℕ, ◌-◌, List, Ok, length, take, drop, sym, ◌∙◌, ap, arith, length-drop}
use Rattle.std.proofs.lemmas.Bool.{cond-false, cond-true, eqb-true}
use Rattle.std.proofs.lemmas.List.{take_all}
use Rattle.fax_pbm.specs.Heads.{is_space}
use Rattle.fax_pbm.specs.Pictures.{raster_of}
use Rattle.fax_pbm.proofs.HeadLemmas.{no_first}
use Rattle.fax_pbm.proofs.head.skip_space.Goals as goal

pub returns-then-is_empty : goal.returns-then-is_empty
unfolding raster_of
returns-then-is_empty c =
    cond-false _ _ _ (ap is_space (no_first c.args.text.now (eqb-true (length c.args.text.now) 0 (sym c.is_empty.ensures ∙ c.if-is_empty.true))))

pub returns-then-is_white : goal.returns-then-is_white
unfolding raster_of
returns-then-is_white c =
    let text = c.args.text.now in
    let rest : take (length text - 1) (drop 1 text) ≡ drop 1 text = take_all (length text - 1) (drop 1 text) (let l = length-drop 1 text in omega (arith, l)) in
    cond-true _ _ _ (sym c.is_white.ensures ∙ c.if-is_white.true) ∙ ap (λ (raster : List ℕ). Ok raster) (sym rest)

pub returns-else-is_white : goal.returns-else-is_white
unfolding raster_of
returns-else-is_white c = cond-false _ _ _ (sym c.is_white.ensures ∙ c.if-is_white.false)
