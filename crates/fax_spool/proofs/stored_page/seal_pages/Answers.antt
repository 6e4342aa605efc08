use Rattle.std.proofs.Common.{◌≡◌, ◌+◌, ◌<◌, ℕ, List, [], ◌∷◌, ◌++◌, Vec, Global, length, map, take, get_or, refl, sym, ◌∙◌, ap, subst, arith}
use Rattle.std.proofs.lemmas.List.{map_push, take_all, take_more}
use Rattle.fax_spool.specs.RecordOctets.{PageValue}
use Rattle.fax_spool.specs.SpoolRecords.{AreReadAs, IsReadAs, page_record}
use Rattle.fax_spool.specs.declared.spool_record.SpoolRecord.{SpoolRecord}
use Rattle.fax_spool.specs.declared.spool_record.SpoolRecord.TheVariants.{Page}
use Rattle.fax_spool.specs.Places.{octets_of}
use Rattle.fax_spool.specs.StoredPages.{AreKnownAs}
use Rattle.fax_spool.proofs.KnownPages.{next_known, none_added, same_kept}
use Rattle.fax_spool.proofs.Places.{vec_length}
use Rattle.fax_spool.proofs.ReadRecords.{read_push, read_through}
use Rattle.fax_spool.proofs.stored_page.seal_pages.Goals as goal

-- one page more is sealed
next_sealed : (before after : List (Vec ℕ Global)) (v : Vec ℕ Global) (pages : List PageValue) (i : ℕ) (page : PageValue) → i < length pages → get_or pages i page ≡ page
    → after ≡ before ++ v ∷ [] → IsReadAs v.items (Page page) → AreReadAs (map (λ (w : Vec ℕ Global). w.items) before) (map page_record (take i pages))
    → AreReadAs (map (λ (w : Vec ℕ Global). w.items) after) (map page_record (take (i + 1) pages))
next_sealed before after v pages i page lt got pushed is was =
    let items : map (λ (w : Vec ℕ Global). w.items) after ≡ map (λ (w : Vec ℕ Global). w.items) before ++ v.items ∷ [] =
    ap (λ (l : List (Vec ℕ Global)). map (λ (w : Vec ℕ Global). w.items) l) pushed ∙ map_push (λ (w : Vec ℕ Global). w.items) before v in
    let records : map page_record (take (i + 1) pages) ≡ map page_record (take i pages) ++ Page page ∷ [] =
    ap (λ (l : List PageValue). map page_record l) (take_more pages i page lt ∙ ap (λ (p : PageValue). take i pages ++ p ∷ []) got) ∙ map_push page_record (take i pages) page in
    subst (λ (l : List (List ℕ)). AreReadAs l (map page_record (take (i + 1) pages))) (sym items)
    (subst (λ (l : List SpoolRecord). AreReadAs (map (λ (w : Vec ℕ Global). w.items) before ++ v.items ∷ []) l) (sym records)
    (read_push (map (λ (w : Vec ℕ Global). w.items) before) (map page_record (take i pages)) v.items (Page page) was is))

pub loop-page-init : goal.loop-page-init
loop-page-init c = (
  subst (λ (l : List (Vec ℕ Global)). AreReadAs (map (λ (w : Vec ℕ Global). w.items) l) []) (sym c.in_ok-items.ensures.items) tt,
  λ before ends. (
    sym ends ∙ ap octets_of (sym (none_added before c.in_ok-items.items.items c.in_ok-items.ensures.items)),
    same_kept _ [] _ [] [] c.in_ok-kept.ensures.items refl tt,
  ),
)

pub loop-page-preserved : goal.loop-page-preserved
loop-page-preserved c = (
  next_sealed c.loop-page.items.items c.push-in-loop-page.new.self.items c.in_ok-item.item c.args.pages.now c.loop-page.page-index c.page-item.result c.loop-page-test.true
      (sym c.page-item.is)
      c.in_ok-push-2.ensures.items c.in_ok-item.ensures c.loop-page.invariant.0,
  λ before ends.
      let was = c.loop-page.invariant.1 before ends in
      next_known before c.loop-page.items.items c.push-in-loop-page.new.self.items c.in_ok-item.item c.as_slice.result.now c.loop-page.kept.items c.push.new.self.items
      (record { name = c.in_ok-name.name; source = c.in_ok-source.source }) c.args.pages.now c.loop-page.page-index c.page-item.result c.loop-page.at c.in_ok-place.place
      c.in_ok-push-2.ensures.items c.as_slice.ensures.value c.in_ok-push.ensures.items c.loop-page-test.true (sym c.page-item.is)
      c.in_ok-place.ensures.at (c.in_ok-place.ensures.octets ∙ c.len.ensures ∙ vec_length c.in_ok-item.item) c.in_ok-name.ensures
      (λ there stands. c.in_ok-source.ensures there c.page-item.result stands (read_through _ _ (Page c.page-item.result) c.as_slice.ensures.value c.in_ok-item.ensures))
      was.0 was.1,
)

pub returns-clause-items : goal.returns-clause-items
returns-clause-items c = subst (λ (l : List PageValue). AreReadAs (map (λ (w : Vec ℕ Global). w.items) c.loop-page.items.items) (map page_record l)) (take_all c.loop-page.page-index c.args.pages.now (omega (arith, c.loop-page-test.false))) c.loop-page.invariant.0

pub returns-clause-kept : goal.returns-clause-kept
returns-clause-kept c = λ before ends.
    subst (λ (l : List PageValue). AreKnownAs (before ++ map (λ (w : Vec ℕ Global). w.items) c.loop-page.items.items) c.loop-page.kept.items l) (take_all c.loop-page.page-index c.args.pages.now (omega (arith, c.loop-page-test.false)))
    (c.loop-page.invariant.1 before ends).1
