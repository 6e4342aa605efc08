use Rattle.std.proofs.Common.{List, ℕ, Vec, Global, ◌∷◌, ◌∙◌, map, drop, length, ◌+◌, refl, sym, ap, arith}
use Rattle.std.proofs.lemmas.List.{drop_more, drop_all}
use Rattle.fax_spool.specs.declared.spool_record.SpoolRecord.{SpoolRecord}
use Rattle.fax_spool.proofs.Places.{all_placed, next_placed, none_placed, vec_length}
use Rattle.fax_spool.proofs.placed_page.placed_pages.Goals as goal

pub loop-kept-init : goal.loop-kept-init
loop-kept-init c = none_placed _ _ c.args.records.now _ refl c.new-pages.ensures.items

pub loop-kept-preserved : goal.loop-kept-preserved
loop-kept-preserved c =
    next_placed _ _ (map (λ (v : Vec ℕ Global). v.items) c.in-Some.after.now) c.as_slice.result.now c.args.records.now _ (drop (c.loop-kept.kept-index + 1) c.args.records.now) c.kept-item.result _ _ _ c.in_ok-place.place
    c.loop-kept.invariant
    (ap (λ (l : List (Vec ℕ Global)). map (λ (v : Vec ℕ Global). v.items) l) c.in-Some.ensures.cases.0 ∙ ap (λ (l : List ℕ). l ∷ map (λ (v : Vec ℕ Global). v.items) c.in-Some.after.now) (sym c.as_slice.ensures.value))
    (drop_more c.args.records.now c.loop-kept.kept-index c.kept-item.result c.loop-kept-test.true ∙ ap (λ (r : SpoolRecord). r ∷ drop (c.loop-kept.kept-index + 1) c.args.records.now) (sym c.kept-item.is))
    c.in_ok-place.ensures.at
    (c.in_ok-place.ensures.octets ∙ c.len.ensures ∙ vec_length c.in-Some.item.now ∙ sym (ap length c.as_slice.ensures.value))
    c.in_ok-follow.ensures

pub returns : goal.returns
returns c = all_placed _ _ _ c.args.records.now _ _ c.loop-kept.invariant (drop_all c.loop-kept.kept-index c.args.records.now (omega (arith, c.loop-kept-test.false)))
