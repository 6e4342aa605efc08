-- What the wire of a line did in a run, order by order.
use Rattle.std.proofs.Common.{◌≡◌, ◌∙◌, ℕ, zero, suc, ◌<◌, ◌⊎◌, inl, inr, Bool, true, false, ◌&&◌, ◌||◌, nat_eq, List, [], ◌∷◌, ◌++◌, All, AllPairs, Option, Some, None, is_some, slice_index_or, arith, refl, sym, ap, subst, append-nil}
use Rattle.std.proofs.lemmas.Bool.{eqb-true}
use Rattle.fax_pagestore.specs.PageLaws.{PagesAreUnique}
use Rattle.fax_pagestore.specs.Pages.{PageValue}
use Rattle.fax_gateway.specs.declared.given.Kept.{Kept}
use Rattle.fax_gateway.specs.declared.leg.Leg.TheVariants as legs
use Rattle.fax_gateway.specs.Restored.{CallPage}
use Rattle.fax_gateway.specs.Setups.{Setup}
use Rattle.fax_gateway.specs.Events.{Event, Placed, Ring}
use Rattle.fax_wires.specs.holding.Holding.{Ceases, HoldingValue, Stays}
use Rattle.fax_wires.specs.holding.Storing.{Begins, HasDone, HoldsAfter, LegAction, Turn, went_out}
use Rattle.fax_wires.proofs.holding.Held.{begins_ceased, ceases_beside, done_still, no_turn, silenced_until}
use Rattle.fax_line.specs.Actions.{LineValue}
use Rattle.fax_line.specs.StoredRuns.{kept_if}
use Rattle.fax_line.specs.Places.{PlaceValue}
use Rattle.fax_line.specs.Settling.{EndsTurn, IsOfTurn, IsPageOf, has_page}
use Rattle.fax_line.specs.declared.settling.PageToStore.{PageToStore}
use Rattle.fax_queue.specs.Histories.{AreStoredOf, IsStoredPage}
use Rattle.fax_queue.specs.OnLeg.{AreOnLeg, IsTurnOnLeg, UnputPagesLetNothingOut}
use Rattle.fax_spool.specs.RecordOctets as spool
use Rattle.fax_queue.proofs.Lives.{one_page}
use Rattle.fax_queue.proofs.BookTurns.{ActionOfTurn, NoPage, NoTick, OnePage}
use Rattle.fax_queue.proofs.PastPuts.{after_none, kept_none, kept_of_none, not_eq}

-- The actions of its wire are those of this trace, and these pages were put with an Ok.
pub record Leg (setup : Setup) (trace : List Event) (holding : HoldingValue) (kept : List CallPage) : Type 0 where
  pub actions : List LegAction
  pub did : HasDone actions holding
  pub on_leg : AreOnLeg setup actions trace kept

pub leg_fresh : (setup : Setup) (holding : HoldingValue) → HasDone [] holding → Leg setup [] holding []
leg_fresh setup holding fresh = record { actions = []; did = fresh; on_leg = (refl, refl) }

pub leg_still : (setup : Setup) (trace : List Event) (old new : HoldingValue) (kept : List CallPage) → Stays old new → Leg setup trace old kept → Leg setup trace new kept
leg_still setup trace old new kept stays was = record { actions = was.actions; did = done_still was.actions old new was.did stays; on_leg = was.on_leg }

pub leg_rung : (setup : Setup) (trace : List Event) (now number : ℕ) (old new : HoldingValue) (kept : List CallPage) → Ceases legs.Calling old new → Leg setup trace old kept → Leg setup (Ring now number ∷ trace) new kept
leg_rung setup trace now number old new kept ceases was = record {
  actions = Begins ∷ was.actions;
  did = begins_ceased was.actions old new ceases was.did;
  on_leg = (was.actions, refl, was.on_leg);
}

-- a call that is placed on the called leg is none of the calling one
pub leg_placed : (setup : Setup) (trace : List Event) (now : ℕ) (connected : Bool) (old new : HoldingValue) (kept : List CallPage) → Ceases legs.Called old new → Leg setup trace old kept
    → Leg setup (Placed now connected ∷ trace) new kept
leg_placed setup trace now connected old new kept ceases was =
    let still = leg_still setup trace old new kept (ceases_beside old new ceases) was in
    record { actions = still.actions; did = still.did; on_leg = still.on_leg }

-- ---- the end of a turn

-- by what the end of a turn makes of the wire
ended : (handed : Option (List ℕ)) (actions : List LegAction) (is_stored : Bool) (old new : LineValue) → EndsTurn is_stored old new → HoldsAfter actions handed old.holding
    → HasDone (Turn handed (is_some old.turned.kept) is_stored ∷ actions) new.holding
ended handed actions is_stored old new ends after = ends.done actions handed after

confirming : (handed : Option (List ℕ)) (actions : List LegAction) (is_stored : Bool) (holding : HoldingValue) (o p : Option Kept) → o ≡ p → HasDone (Turn handed (is_some o) is_stored ∷ actions) holding
    → HasDone (Turn handed (is_some p) is_stored ∷ actions) holding
confirming handed actions is_stored holding o p is did = subst (λ (k : Option Kept). HasDone (Turn handed (is_some k) is_stored ∷ actions) holding) is did

-- ---- the pages of the line among those that were put

none_some : (k : Kept) → None ≡ Some k → ⊥
none_some k e = cc

-- a line that confirmed none has none
none_first : (which : ℕ → Bool) (number : ℕ) (lines : List PlaceValue) (other : PlaceValue) (page : PageToStore) (pages : List PageToStore) → IsPageOf which lines page → (slice_index_or lines number other).line.turned.kept ≡ None
    → has_page pages number ≡ false → (b : Bool) → nat_eq page.line number ≡ b → (b || has_page pages number) ≡ false
none_first which number lines other page pages first none rest true is =
    let its : IsOfTurn (slice_index_or lines number other).line page = subst (λ (n : ℕ). IsOfTurn (slice_index_or lines n other).line page) (eqb-true page.line number is) (first.is_of_turn other) in
    absurd (none_some its.kept (sym none ∙ its.told))
none_first which number lines other page pages first none rest false is = rest

none_has : (which : ℕ → Bool) (number : ℕ) (lines : List PlaceValue) (other : PlaceValue) (pages : List PageToStore) → All (IsPageOf which lines) pages → (slice_index_or lines number other).line.turned.kept ≡ None → has_page pages number ≡ false
none_has which number lines other [] all none = refl
none_has which number lines other (page ∷ pages) all none =
    none_first which number lines other page pages (all zero page (omega arith)) none (none_has which number lines other pages (λ k d low. all (suc k) d (omega (arith, low))) none) (nat_eq page.line number) refl

record Own (which : ℕ → Bool) (number : ℕ) (lines : List PlaceValue) (other : PlaceValue) (pages : List PageToStore) : Type 0 where
  page : PageToStore
  its : IsOfTurn (slice_index_or lines number other).line page
  kept : (p : CallPage) → IsStoredPage page p → AreStoredOf number pages (p ∷ [])

own_first : (which : ℕ → Bool) (number : ℕ) (lines : List PlaceValue) (other : PlaceValue) (page : PageToStore) (pages : List PageToStore) → IsPageOf which lines page → AllPairs (λ page after. page.line < after.line) (page ∷ pages)
    → (b : Bool) → nat_eq page.line number ≡ b → (b || has_page pages number) ≡ true → (has_page pages number ≡ true → Own which number lines other pages) → Own which number lines other (page ∷ pages)
own_first which number lines other page pages first rising true is has rest = record {
  page = page;
  its = subst (λ (n : ℕ). IsOfTurn (slice_index_or lines n other).line page) (eqb-true page.line number is) (first.is_of_turn other);
  kept = λ p its. inl (eqb-true page.line number is, its, kept_none number pages (after_none page pages number (eqb-true page.line number is) rising));
}
own_first which number lines other page pages first rising false is has rest =
    let own : Own which number lines other pages = rest has in record { page = own.page; its = own.its; kept = λ p its. inr (not_eq page.line number is, own.kept p its) }

own_of : (which : ℕ → Bool) (number : ℕ) (lines : List PlaceValue) (other : PlaceValue) (pages : List PageToStore) → All (IsPageOf which lines) pages → AllPairs (λ page after. page.line < after.line) pages → has_page pages number ≡ true
    → Own which number lines other pages
own_of which number lines other [] all rising has = let no : false ≡ true = has in cc
own_of which number lines other (page ∷ pages) all rising has =
    own_first which number lines other page pages (all zero page (omega arith)) rising (nat_eq page.line number) refl has
    (λ rest. own_of which number lines other pages (λ k d low. all (suc k) d (omega (arith, low))) (λ i j d less low. rising (suc i) (suc j) d (omega (arith, less)) (omega (arith, low))) rest)

none_kept : (number : ℕ) (pages : List PageToStore) (is_stored : Bool) → has_page pages number ≡ false → AreStoredOf number (kept_if is_stored pages) []
none_kept number pages true none = kept_of_none number pages none
none_kept number pages false none = refl

-- ---- a turn of the line, and its end

-- after it, by the pages that were put at once
pub record LegSo (setup : Setup) (trace : List Event) (holding : HoldingValue) (kept : List CallPage) (number : ℕ) (pages : List PageToStore) : Type 0 where
  pub more : List CallPage
  pub are_put : AreStoredOf number pages more
  pub leg : Leg setup trace holding (kept ++ more)

nothing_put : (setup : Setup) (trace : List Event) (holding : HoldingValue) (kept : List CallPage) (number : ℕ) (pages : List PageToStore) → AreStoredOf number pages [] → Leg setup trace holding kept
    → LegSo setup trace holding kept number pages
nothing_put setup trace holding kept number pages are leg = record { more = []; are_put = are; leg = subst (λ (k : List CallPage). Leg setup trace holding k) (sym (append-nil kept)) leg }

pub leg_ended :
    (setup : Setup) (older newer : List Event) (handed : Option (List ℕ)) (which : ℕ → Bool) (number : ℕ) (pages : List PageToStore) (is_ok : Bool) (lines : List PlaceValue) (other : PlaceValue) (mid : HoldingValue) (new : LineValue) (kept : List CallPage)
    → ActionOfTurn setup handed older newer (slice_index_or lines number other).line → All (IsPageOf which lines) pages → AllPairs (λ page after. page.line < after.line) pages
    → EndsTurn (has_page pages number && is_ok) (slice_index_or lines number other).line new
    → ((actions : List LegAction) → HasDone actions mid → HoldsAfter actions handed (slice_index_or lines number other).line.holding) → Leg setup older mid kept
    → LegSo setup newer new.holding kept number (kept_if is_ok pages)
leg_ended setup older newer handed which number pages is_ok lines other mid new kept action each rising ends holds was = by action
  where
    own : LineValue
    own = (slice_index_or lines number other).line

    did : HasDone (Turn handed (is_some own.turned.kept) (has_page pages number && is_ok) ∷ was.actions) new.holding
    did = ended handed was.actions (has_page pages number && is_ok) own new ends (holds was.actions was.did)

    nothing : own.turned.kept ≡ None → AreStoredOf number (kept_if is_ok pages) []
    nothing none = none_kept number pages is_ok (none_has which number lines other pages each none)

    of_page : (page : CallPage) → ((to_store : PageToStore) → IsOfTurn own to_store → IsStoredPage to_store page)
        → ((actions : List LegAction) (before : List CallPage) → AreOnLeg setup actions older before → AreOnLeg setup (Turn handed true true ∷ actions) newer (before ++ page ∷ []))
        → ((actions : List LegAction) (before : List CallPage) → AreOnLeg setup actions older before → AreOnLeg setup (Turn handed true false ∷ actions) newer before)
        → (has ok : Bool) → has_page pages number ≡ has → is_ok ≡ ok → HasDone (Turn handed true (has && ok) ∷ was.actions) new.holding
        → LegSo setup newer new.holding kept number (kept_if is_ok pages)
    of_page page means put refused true true has ok done =
        let its : Own which number lines other pages = own_of which number lines other pages each rising has in record {
          more = page ∷ [];
          are_put = subst (λ (b : Bool). AreStoredOf number (kept_if b pages) (page ∷ [])) (sym ok) (its.kept page (means its.page its.its));
          leg = record { actions = Turn handed true true ∷ was.actions; did = done; on_leg = put was.actions kept was.on_leg };
        }
    of_page page means put refused true false has ok done =
        nothing_put setup newer new.holding kept number (kept_if is_ok pages) (subst (λ (b : Bool). AreStoredOf number (kept_if b pages) []) (sym ok) refl)
        (record { actions = Turn handed true false ∷ was.actions; did = done; on_leg = refused was.actions kept was.on_leg })
    of_page page means put refused false ok has is_ok_so done =
        nothing_put setup newer new.holding kept number (kept_if is_ok pages) (none_kept number pages is_ok has)
        (record { actions = Turn handed true false ∷ was.actions; did = done; on_leg = refused was.actions kept was.on_leg })

    by : ActionOfTurn setup handed older newer own → LegSo setup newer new.holding kept number (kept_if is_ok pages)
    by (NoTick none nothing_handed goes) =
        nothing_put setup newer new.holding kept number (kept_if is_ok pages) (nothing none) (record {
          actions = was.actions;
          did = no_turn was.actions (has_page pages number && is_ok) new.holding
              (subst (λ (h : Option (List ℕ)). HasDone (Turn h false (has_page pages number && is_ok) ∷ was.actions) new.holding) nothing_handed
              (confirming handed was.actions (has_page pages number && is_ok) new.holding own.turned.kept None none did));
          on_leg = goes was.actions kept was.on_leg;
        })
    by (NoPage none goes) =
        nothing_put setup newer new.holding kept number (kept_if is_ok pages) (nothing none) (record {
          actions = Turn handed false (has_page pages number && is_ok) ∷ was.actions;
          did = confirming handed was.actions (has_page pages number && is_ok) new.holding own.turned.kept None none did;
          on_leg = goes (has_page pages number && is_ok) was.actions kept was.on_leg;
        })
    by (OnePage kept_own some page means put refused) =
        of_page page means put refused (has_page pages number) is_ok refl refl (confirming handed was.actions (has_page pages number && is_ok) new.holding own.turned.kept (Some kept_own) some did)

-- ---- which pages were put is told once

-- a page in a call
abbrev in_call : ℕ → PageValue → CallPage
in_call number page = record { call = number; page = page }

same_kept : PagesAreUnique → (to_store : PageToStore) (a b : CallPage) → IsStoredPage to_store a → IsStoredPage to_store b → a ≡ b
same_kept unique to_store a b first second =
    let call : a.call ≡ b.call = first.0 ∙ sym second.0 in
    let value : spool.PageValue = record { life = 0; call = 0; number = 0; format = to_store.kept.format; closes = false; line = []; tag = []; text = to_store.text } in
    let page : a.page ≡ b.page = one_page unique value a.page b.page first.1 second.1 in
    ap (λ (n : ℕ). in_call n a.page) call ∙ ap (λ (p : PageValue). in_call b.call p) page

pub kept_once : PagesAreUnique → (number : ℕ) (pages : List PageToStore) (a b : List CallPage) → AreStoredOf number pages a → AreStoredOf number pages b → a ≡ b
kept_once unique number [] a b first second = first ∙ sym second
kept_once unique number (page ∷ pages) [] [] first second = refl
kept_once unique number (page ∷ pages) [] (q ∷ b) first (inl is) = absurd (first.0 is.0)
kept_once unique number (page ∷ pages) [] (q ∷ b) first (inr is) = kept_once unique number pages [] (q ∷ b) first.1 is.1
kept_once unique number (page ∷ pages) (p ∷ a) [] (inl is) second = absurd (second.0 is.0)
kept_once unique number (page ∷ pages) (p ∷ a) [] (inr is) second = kept_once unique number pages (p ∷ a) [] is.1 second.1
kept_once unique number (page ∷ pages) (p ∷ a) (q ∷ b) (inl is) (inl same) =
    let first : p ≡ q = same_kept unique page p q is.1 same.1 in let rest : a ≡ b = kept_once unique number pages a b is.2 same.2 in cc
kept_once unique number (page ∷ pages) (p ∷ a) (q ∷ b) (inl is) (inr other) = absurd (other.0 is.0)
kept_once unique number (page ∷ pages) (p ∷ a) (q ∷ b) (inr is) (inl same) = absurd (is.0 same.0)
kept_once unique number (page ∷ pages) (p ∷ a) (q ∷ b) (inr is) (inr other) = kept_once unique number pages (p ∷ a) (q ∷ b) is.1 other.1

-- ---- where a page was not put nothing goes out

pub unput_pages_let_nothing_out : UnputPagesLetNothingOut
unput_pages_let_nothing_out setup at given earlier actions kept page is are =
    by (subst (λ (o : Option CallPage). IsTurnOnLeg (λ before pages. AreOnLeg setup before earlier pages) given.on_calling o actions kept) is are)
  where
    by : IsTurnOnLeg (λ before pages. AreOnLeg setup before earlier pages) given.on_calling (Some page) actions kept
        → ((pages : List CallPage) × (kept ≡ pages ++ page ∷ [])) ⊎ ((before : List LegAction) × AreOnLeg setup before earlier kept × (went_out actions ≡ went_out before))
    by (handed, before, is_handed, inl (actions_are, (pages, kept_are, rest))) = inl (pages, kept_are)
    by (handed, before, is_handed, inr (actions_are, rest)) = inr (before, rest, ap went_out actions_are ∙ silenced_until [] before handed tt)
