use Rattle.std.proofs.Common.{◌≡◌, ◌++◌, [], ◌∷◌, true, false, List, length, take, MatchOption, slice_get, ◌∙◌, ap, sym, subst, arith}
use Rattle.std.specs.List.{list_any}
use Rattle.std.proofs.lemmas.List.{append-nil}
use Rattle.fax_spool.specs.Torn.{call_of}
use Rattle.fax_undelivered.specs.Calls.{CallValue, IsFirst, begun_by, is_named, is_of, with_page}
use Rattle.fax_undelivered.proofs.Listing.{at_read, begun, first_new, first_of_none, first_still, found_at, heard_at, heard_by_none, not_begun}
use Rattle.fax_undelivered.proofs.call.add_page.Goals as goal

pub returns-then-place-len-clause-calls : goal.returns-then-place-len-clause-calls
returns-then-place-len-clause-calls c =
    let items = c.args.calls.now.items in
    let page = c.args.page.now in
    let place = c.place_of-place.result in
    let none : list_any (is_named (call_of page)) (take place items) ≡ false = subst (λ (l : List CallValue). list_any (is_named (call_of page)) (take place l) ≡ false) c.as_slice.ensures.value c.place_of-place.ensures.before in
    let call = c.index_mut.result.now in
    let found : MatchOption (slice_get items place) (place ≡ length items) (λ call. is_of call page ≡ true) = subst (λ (l : List CallValue). MatchOption (slice_get l place) (place ≡ length l) (λ call. is_of call page ≡ true)) c.as_slice.ensures.value c.place_of-place.ensures.found in
    let at = at_read items place call (omega (arith, c.if-place-len.true, c.len.ensures)) c.index_mut.ensures.value in
    heard_at page items place call c.hear.new.self (omega (arith, c.if-place-len.true, c.len.ensures)) at (found_at page (slice_get items place) call (place ≡ length items) at found)
    none
    c.in_ok-hear.ensures

pub returns-then-place-len-clause-first : goal.returns-then-place-len-clause-first
returns-then-place-len-clause-first c =
    let items = c.args.calls.now.items in
    let page = c.args.page.now in
    let place = c.place_of-place.result in
    let none : list_any (is_named (call_of page)) (take place items) ≡ false = subst (λ (l : List CallValue). list_any (is_named (call_of page)) (take place l) ≡ false) c.as_slice.ensures.value c.place_of-place.ensures.before in
    let call = c.index_mut.result.now in
    let found : MatchOption (slice_get items place) (place ≡ length items) (λ call. is_of call page ≡ true) = subst (λ (l : List CallValue). MatchOption (slice_get l place) (place ≡ length l) (λ call. is_of call page ≡ true)) c.as_slice.ensures.value c.place_of-place.ensures.found in
    let at = at_read items place call (omega (arith, c.if-place-len.true, c.len.ensures)) c.index_mut.ensures.value in
    first_still page items place call c.hear.new.self (omega (arith, c.if-place-len.true, c.len.ensures)) (found_at page (slice_get items place) call (place ≡ length items) at found) none c.in_ok-hear.ensures

pub returns-in_ok-push-clause-calls : goal.returns-in_ok-push-clause-calls
returns-in_ok-push-clause-calls c =
    let items = c.args.calls.now.items in
    let page = c.args.page.now in
    let place = c.place_of-place.result in
    let none : list_any (is_named (call_of page)) (take place items) ≡ false = subst (λ (l : List CallValue). list_any (is_named (call_of page)) (take place l) ≡ false) c.as_slice.ensures.value c.place_of-place.ensures.before in
    c.in_ok-push.ensures.items
    ∙ ap (λ (x : CallValue). items ++ x ∷ []) c.in_ok-begun_by.ensures
    ∙ ap (λ (l : List CallValue). items ++ l) (sym (begun page (sym c.if-is_page.ensures)))
    ∙ sym (heard_by_none page items place (omega (arith, c.if-place-len.false, c.len.ensures, c.place_of-place.ensures.within, ap length c.as_slice.ensures.value)) none)

pub returns-in_ok-push-clause-first : goal.returns-in_ok-push-clause-first
returns-in_ok-push-clause-first c =
    let items = c.args.calls.now.items in
    let page = c.args.page.now in
    let place = c.place_of-place.result in
    let none : list_any (is_named (call_of page)) (take place items) ≡ false = subst (λ (l : List CallValue). list_any (is_named (call_of page)) (take place l) ≡ false) c.as_slice.ensures.value c.place_of-place.ensures.before in
    subst (λ (l : List CallValue). IsFirst l place) (sym (c.in_ok-push.ensures.items ∙ ap (λ (x : CallValue). items ++ x ∷ []) c.in_ok-begun_by.ensures))
    (first_new page items place (omega (arith, c.if-place-len.false, c.len.ensures, c.place_of-place.ensures.within, ap length c.as_slice.ensures.value)) none)

pub returns-else-is_page-clause-calls : goal.returns-else-is_page-clause-calls
returns-else-is_page-clause-calls c =
    let items = c.args.calls.now.items in
    let page = c.args.page.now in
    let place = c.place_of-place.result in
    let none : list_any (is_named (call_of page)) (take place items) ≡ false = subst (λ (l : List CallValue). list_any (is_named (call_of page)) (take place l) ≡ false) c.as_slice.ensures.value c.place_of-place.ensures.before in
    sym (heard_by_none page items place (omega (arith, c.if-place-len.false, c.len.ensures, c.place_of-place.ensures.within, ap length c.as_slice.ensures.value)) none
    ∙ ap (λ (l : List CallValue). items ++ l) (not_begun page (sym c.if-is_page.ensures))
    ∙ append-nil items)

pub returns-else-is_page-clause-first : goal.returns-else-is_page-clause-first
returns-else-is_page-clause-first c = first_of_none c.args.calls.now.items c.place_of-place.result (omega (arith, c.if-place-len.false, c.len.ensures, c.place_of-place.ensures.within, ap length c.as_slice.ensures.value))
