-- What holds of each entry, carried through what is done with entries.
use Rattle.std.proofs.Common.{◌≡◌, ℕ, ◌<◌, Bool, true, false, cond, nat_eq, List, [], ◌∷◌, ◌++◌, map, filter, sym, subst, arith}
use Rattle.std.proofs.lemmas.Bool.Decides.{nat_tests}
use Rattle.fax_switch.specs.declared.call.Entry.{Entry}
use Rattle.fax_switch.specs.Entries.{Each, EachTwo}

filtered_step : (P : Entry → Type 0) (entry : Entry) (entries : List Entry) (b : Bool) → P entry → Each P entries → Each P (cond b (entry ∷ entries) entries)
filtered_step P entry entries true p each = (p, each)
filtered_step P entry entries false p each = each

pub each_filter : (P : Entry → Type 0) (test : Entry → Bool) (entries : List Entry) → Each P entries → Each P (filter test entries)
each_filter P test [] each = tt
each_filter P test (entry ∷ entries) each = filtered_step P entry (filter test entries) (test entry) each.0 (each_filter P test entries each.1)

pub each_map : (P Q : Entry → Type 0) (f : Entry → Entry) → ((entry : Entry) → P entry → Q (f entry)) → (entries : List Entry) → Each P entries → Each Q (map f entries)
each_map P Q f step [] each = tt
each_map P Q f step (entry ∷ entries) each = (step entry each.0, each_map P Q f step entries each.1)

pub each_push : (P : Entry → Type 0) (entries : List Entry) (last : Entry) → Each P entries → P last → Each P (entries ++ last ∷ [])
each_push P [] last each p = (p, tt)
each_push P (entry ∷ entries) last each p = (each.0, each_push P entries last each.1 p)

pub each_weaker : (P Q : Entry → Type 0) → ((entry : Entry) → P entry → Q entry) → (entries : List Entry) → Each P entries → Each Q entries
each_weaker P Q step [] each = tt
each_weaker P Q step (entry ∷ entries) each = (step entry each.0, each_weaker P Q step entries each.1)

pub each_both : (P Q R : Entry → Type 0) → ((entry : Entry) → P entry → Q entry → R entry) → (entries : List Entry) → Each P entries → Each Q entries → Each R entries
each_both P Q R step [] each other = tt
each_both P Q R step (entry ∷ entries) each other = (step entry each.0 other.0, each_both P Q R step entries each.1 other.1)

pub each_of : (P : Entry → Type 0) → ((entry : Entry) → P entry) → (entries : List Entry) → Each P entries
each_of P all [] = tt
each_of P all (entry ∷ entries) = (all entry, each_of P all entries)

-- ---- numbers of calls that differ

abbrev pub Differ : Entry → Entry → Type 0
Differ entry other = nat_eq entry.call.id other.call.id ≡ false

differ_step : (entry : Entry) (entries filtered : List Entry) (b : Bool) → Each (Differ entry) filtered → EachTwo Differ filtered → EachTwo Differ (cond b (entry ∷ filtered) filtered)
differ_step entry entries filtered true each two = (each, two)
differ_step entry entries filtered false each two = two

pub differ_filter : (test : Entry → Bool) (entries : List Entry) → EachTwo Differ entries → EachTwo Differ (filter test entries)
differ_filter test [] two = tt
differ_filter test (entry ∷ entries) two =
    differ_step entry entries (filter test entries) (test entry) (each_filter (Differ entry) test entries two.0) (differ_filter test entries two.1)

differ_mapped : (f : Entry → Entry) → ((entry : Entry) → (f entry).call.id ≡ entry.call.id) → (entry other : Entry) → Differ entry other → Differ (f entry) (f other)
differ_mapped f same entry other differ =
    subst (λ (i : ℕ). nat_eq i (f other).call.id ≡ false) (sym (same entry)) (subst (λ (i : ℕ). nat_eq entry.call.id i ≡ false) (sym (same other)) differ)

pub differ_map : (f : Entry → Entry) → ((entry : Entry) → (f entry).call.id ≡ entry.call.id) → (entries : List Entry) → EachTwo Differ entries → EachTwo Differ (map f entries)
differ_map f same [] two = tt
differ_map f same (entry ∷ entries) two =
    (each_map (Differ entry) (Differ (f entry)) f (λ other differ. differ_mapped f same entry other differ) entries two.0, differ_map f same entries two.1)

below_differ : (a b next : ℕ) → a < next → b ≡ next → nat_eq a b ≡ false
below_differ a b next below same = grind (arith, nat_tests)

pub differ_push : (entries : List Entry) (last : Entry) (next : ℕ) → last.call.id ≡ next → Each (λ entry. entry.call.id < next) entries → EachTwo Differ entries
    → EachTwo Differ (entries ++ last ∷ [])
differ_push [] last next same below two = (tt, tt)
differ_push (entry ∷ entries) last next same below two =
    (each_push (Differ entry) entries last two.0 (below_differ entry.call.id last.call.id next below.0 same), differ_push entries last next same below.1 two.1)
