-- The calls that are left where one is discarded.
use Rattle.std.proofs.Common.{◌≡◌, ℕ, ◌+◌, ◌-◌, ◌^◌, ◌<◌, ◌≤◌, ◌⊎◌, inl, inr, Bool, true, false, not, ◌&&◌, cond, nat_eq, nat_lt, nat_le, bytes_eq, List, [], ◌∷◌, Option, Some, None, refl, sym, ◌∙◌, ap, subst, arith}
use Rattle.std.proofs.lemmas.Bool.Decides.{nat_tests}
use Rattle.std.proofs.lemmas.Slice.Eq.{bytes_eq-Decides}
use Rattle.fax_spool.specs.RecordOctets.{EndedValue, PageValue}
use Rattle.fax_spool.specs.Torn.{CallName}
use Rattle.fax_spool.specs.Waits.{ends, name_of, without}
use Rattle.fax_undelivered.specs.Cards.{card_in}
use Rattle.fax_undelivered.specs.Calls.{CallValue, begun_by, but, calls_after, end_of, is_named, is_of, is_page, told_by, with_card, with_number, with_page}
use Rattle.fax_undelivered.proofs.Listing
use Rattle.fax_undelivered.proofs.Listing.{begun, heard, name_still, not_begun, not_heard}

-- ---- names

-- a call that has a record has its name
pub name_of_it : (name : CallName) (c : CallValue) (page : PageValue) → is_of c page ≡ true → is_named name c ≡ is_named name (begun_by page)
name_of_it name c page is = ap (λ (n : CallName). nat_eq n.life name.life && nat_eq n.call name.call && bytes_eq n.line name.line) (Listing.name_of_it c page is)

-- and keeps it
pub named_still : (name : CallName) (page : PageValue) (c : CallValue) → is_named name (told_by page c) ≡ is_named name c
named_still name page c = ap (λ (n : CallName). nat_eq n.life name.life && nat_eq n.call name.call && bytes_eq n.line name.line) (name_still page c)

-- ---- one call of a list

but_named : (name : CallName) (c : CallValue) (calls : List CallValue) → is_named name c ≡ true → but name (c ∷ calls) ≡ but name calls
but_named name c calls is = subst (λ (b : Bool). cond (not b) (c ∷ but name calls) (but name calls) ≡ but name calls) (sym is) refl

but_other : (name : CallName) (c : CallValue) (calls : List CallValue) → is_named name c ≡ false → but name (c ∷ calls) ≡ c ∷ but name calls
but_other name c calls un = subst (λ (b : Bool). cond (not b) (c ∷ but name calls) (but name calls) ≡ c ∷ but name calls) (sym un) refl

-- ---- a record of the call

module _ (name : CallName) (page : PageValue) (own : is_named name (begun_by page) ≡ true) where
  first_of_it : (b : Bool) → is_page page ≡ b → but name (with_page page []) ≡ []
  first_of_it true so = ap (λ (l : List CallValue). but name l) (begun page so) ∙ but_named name (begun_by page) [] own
  first_of_it false un = ap (λ (l : List CallValue). but name l) (not_begun page un)

  beside_it : (c : CallValue) (calls : List CallValue) (t : Bool) → is_named name c ≡ t → but name (with_page page calls) ≡ but name calls → but name (c ∷ with_page page calls) ≡ but name (c ∷ calls)
  beside_it c calls true is rest = but_named name c (with_page page calls) is ∙ rest ∙ sym (but_named name c calls is)
  beside_it c calls false is rest = but_other name c (with_page page calls) is ∙ ap (λ (l : List CallValue). c ∷ l) rest ∙ sym (but_other name c calls is)

  next_of_it : (c : CallValue) (calls : List CallValue) (b : Bool) → is_of c page ≡ b → but name (with_page page calls) ≡ but name calls → but name (with_page page (c ∷ calls)) ≡ but name (c ∷ calls)
  next_of_it c calls true so rest =
      let named : is_named name c ≡ true = name_of_it name c page so ∙ own in
      ap (λ (l : List CallValue). but name l) (heard page c calls so)
      ∙ but_named name (told_by page c) calls (named_still name page c ∙ named)
      ∙ sym (but_named name c calls named)
  next_of_it c calls false un rest = ap (λ (l : List CallValue). but name l) (not_heard page c calls un) ∙ beside_it c calls (is_named name c) refl rest

  of_it : (calls : List CallValue) → but name (with_page page calls) ≡ but name calls
  of_it [] = first_of_it (is_page page) refl
  of_it (c ∷ calls) = next_of_it c calls (is_of c page) refl (of_it calls)

-- ---- a record of another call

module _ (name : CallName) (page : PageValue) (other : is_named name (begun_by page) ≡ false) where
  first_of_other : (b : Bool) → is_page page ≡ b → but name (with_page page []) ≡ with_page page []
  first_of_other true so = ap (λ (l : List CallValue). but name l) (begun page so) ∙ but_other name (begun_by page) [] other ∙ sym (begun page so)
  first_of_other false un = ap (λ (l : List CallValue). but name l) (not_begun page un) ∙ sym (not_begun page un)

  beside_other : (c : CallValue) (calls : List CallValue) (t : Bool) → is_named name c ≡ t → is_of c page ≡ false → but name (with_page page calls) ≡ with_page page (but name calls)
      → but name (c ∷ with_page page calls) ≡ with_page page (but name (c ∷ calls))
  beside_other c calls true is un rest = but_named name c (with_page page calls) is ∙ rest ∙ ap (λ (l : List CallValue). with_page page l) (sym (but_named name c calls is))
  beside_other c calls false is un rest =
      but_other name c (with_page page calls) is
      ∙ ap (λ (l : List CallValue). c ∷ l) rest
      ∙ sym (not_heard page c (but name calls) un)
      ∙ ap (λ (l : List CallValue). with_page page l) (sym (but_other name c calls is))

  next_of_other : (c : CallValue) (calls : List CallValue) (b : Bool) → is_of c page ≡ b → but name (with_page page calls) ≡ with_page page (but name calls)
      → but name (with_page page (c ∷ calls)) ≡ with_page page (but name (c ∷ calls))
  next_of_other c calls true so rest =
      let named : is_named name c ≡ false = name_of_it name c page so ∙ other in
      ap (λ (l : List CallValue). but name l) (heard page c calls so)
      ∙ but_other name (told_by page c) calls (named_still name page c ∙ named)
      ∙ sym (heard page c (but name calls) so)
      ∙ ap (λ (l : List CallValue). with_page page l) (sym (but_other name c calls named))
  next_of_other c calls false un rest = ap (λ (l : List CallValue). but name l) (not_heard page c calls un) ∙ beside_other c calls (is_named name c) refl un rest

  of_other : (calls : List CallValue) → but name (with_page page calls) ≡ with_page page (but name calls)
  of_other [] = first_of_other (is_page page) refl
  of_other (c ∷ calls) = next_of_other c calls (is_of c page) refl (of_other calls)

-- ---- a record that tells nothing

module _ (page : PageValue) (high : 2 ^ 32 - 1 ≤ page.number) where
  none_first : nat_eq page.number 0 ≡ false
  none_first = grind (arith, nat_tests)

  none_page : is_page page ≡ false
  none_page = grind (arith, nat_tests)

  same_told : (c : CallValue) → told_by page c ≡ c
  same_told c =
      subst (λ (o : Bool). cond o (with_card (card_in page.text) c) (cond (is_page page) (with_number page.number c) c) ≡ c) (sym none_first)
      (subst (λ (p : Bool). cond p (with_number page.number c) c ≡ c) (sym none_page) refl)

  next_none : (c : CallValue) (calls : List CallValue) (b : Bool) → is_of c page ≡ b → with_page page calls ≡ calls → with_page page (c ∷ calls) ≡ c ∷ calls
  next_none c calls true so rest = heard page c calls so ∙ ap (λ (x : CallValue). x ∷ calls) (same_told c)
  next_none c calls false un rest = not_heard page c calls un ∙ ap (λ (l : List CallValue). c ∷ l) rest

  tells_nothing : (calls : List CallValue) → with_page page calls ≡ calls
  tells_nothing [] = not_begun page none_page
  tells_nothing (c ∷ calls) = next_none c calls (is_of c page) refl (tells_nothing calls)

-- ---- all records

-- the end of all of a call is that of its own records, but of those of no number
pub ended_own : (name : CallName) (page : PageValue) → ends (end_of name) (name_of page) ≡ true → is_named name (begun_by page) ≡ true
ended_own name page is =
    let line : bytes_eq name.line page.line ≡ true → bytes_eq page.line name.line ≡ true = λ so. (bytes_eq-Decides page.line name.line).1 (sym ((bytes_eq-Decides name.line page.line).0 so)) in
    grind (arith, nat_tests, line)

not_ended : (name : CallName) (page : PageValue) (b : Bool) → is_named name (begun_by page) ≡ b → ends (end_of name) (name_of page) ≡ false → (is_named name (begun_by page) ≡ false) ⊎ (2 ^ 32 - 1 ≤ page.number)
not_ended name page false is un = inl is
not_ended name page true is un =
    let line : bytes_eq page.line name.line ≡ true → bytes_eq name.line page.line ≡ true = λ so. (bytes_eq-Decides name.line page.line).1 (sym ((bytes_eq-Decides page.line name.line).0 so)) in
    inr (grind (arith, nat_tests, line))

stays : (name : CallName) (page : PageValue) (calls : List CallValue) → (is_named name (begun_by page) ≡ false) ⊎ (2 ^ 32 - 1 ≤ page.number) → but name (with_page page calls) ≡ with_page page (but name calls)
stays name page calls (inl other) = of_other name page other calls
stays name page calls (inr high) = ap (λ (l : List CallValue). but name l) (tells_nothing page high calls) ∙ sym (tells_nothing page high (but name calls))

ended_too : (e : EndedValue) (page : PageValue) (pages : List PageValue) → ends e (name_of page) ≡ true → without e (page ∷ pages) ≡ without e pages
ended_too e page pages is = subst (λ (t : Bool). cond (not t) (page ∷ without e pages) (without e pages) ≡ without e pages) (sym is) refl

left_too : (e : EndedValue) (page : PageValue) (pages : List PageValue) → ends e (name_of page) ≡ false → without e (page ∷ pages) ≡ page ∷ without e pages
left_too e page pages is = subst (λ (t : Bool). cond (not t) (page ∷ without e pages) (without e pages) ≡ page ∷ without e pages) (sym is) refl

next_left : (name : CallName) (page : PageValue) (pages : List PageValue) (calls : List CallValue) (b : Bool) → ends (end_of name) (name_of page) ≡ b
    → calls_after (but name (with_page page calls)) (without (end_of name) pages) ≡ calls_after (but name calls) (without (end_of name) (page ∷ pages))
next_left name page pages calls true is =
    ap (λ (l : List CallValue). calls_after l (without (end_of name) pages)) (of_it name page (ended_own name page is) calls)
    ∙ ap (λ (l : List PageValue). calls_after (but name calls) l) (sym (ended_too (end_of name) page pages is))
next_left name page pages calls false is =
    ap (λ (l : List CallValue). calls_after l (without (end_of name) pages)) (stays name page calls (not_ended name page (is_named name (begun_by page)) refl is))
    ∙ ap (λ (l : List PageValue). calls_after (but name calls) l) (sym (left_too (end_of name) page pages is))

pub left_by_discard : (name : CallName) (pages : List PageValue) (calls : List CallValue) → but name (calls_after calls pages) ≡ calls_after (but name calls) (without (end_of name) pages)
left_by_discard name [] calls = refl
left_by_discard name (page ∷ pages) calls = left_by_discard name pages (with_page page calls) ∙ next_left name page pages calls (ends (end_of name) (name_of page)) refl
