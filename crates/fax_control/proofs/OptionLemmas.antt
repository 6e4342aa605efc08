-- Words and options at the front of a text: there is one way to take them off.
use Rattle.std.proofs.Common.{◌≡◌, ◌≢◌, ℕ, zero, suc, ◌<◌, ◌^◌, List, [], ◌∷◌, ◌++◌, Bool, true, false, Option, None, Some, codes, decimal, IfSome, inl, inr, refl, sym, ◌∙◌, ap, subst, arith, append_assoc}
use Rattle.std.proofs.lemmas.Fmt.{digits_decimal}
use Rattle.std.proofs.lemmas.List.{append_cancel_left}
use Rattle.std.proofs.lemmas.Str.Parse.{numerals_by_value, tells_digits, not_in_digits}
use Rattle.std.proofs.NetLemmas.Theorems.{IsSocketText_unique}
use Rattle.std.specs.Net.Grammar.{IsSocketText}
use Rattle.std.specs.Str.Parse.{AllDigits}
use Rattle.std.specs.declared.net.socket_addr.SocketAddr.{SocketAddr}
use Rattle.fax_control.specs.declared.word.Bounds.{Bounds}
use Rattle.fax_gateway.specs.declared.leg.Leg.{Leg}
use Rattle.fax_gateway.specs.declared.leg.Leg.TheVariants.{Calling, Called}
use Rattle.fax_control.specs.Options.{IsNoOption, IsOption, MayFollowNoTag, StartsOtherwise}
use Rattle.fax_control.specs.Words.{BeginsWith, HasNoSpace, IsPeerText, IsRingTag, IsTag, IsWithin, bounds_led, led, moved_text, option_led, word_led}
use Rattle.fax_control.proofs.SpaceLemmas.{heads, tails, has_space, cut_once, NoSpace-by_test, NoSpace-tail, NoSpace-head}

-- two texts of which neither has a space, one after the other
pub NoSpace-append : (xs ys : List ℕ) → HasNoSpace xs → HasNoSpace ys → HasNoSpace (xs ++ ys)
NoSpace-append [] ys p q k within = q k within
NoSpace-append (x ∷ xs) ys p q zero within = NoSpace-head x xs p
NoSpace-append (x ∷ xs) ys p q (suc k) within = NoSpace-append xs ys (NoSpace-tail x xs p) q k (omega arith)

pub NoSpace-decimal : (n : ℕ) → n < 2 ^ 64 → HasNoSpace (decimal n)
NoSpace-decimal n small =
    let own = numerals_by_value (AllDigits 10) tells_digits in
    not_in_digits own (decimal n) 32 (digits_decimal own n small) (λ within. omega (arith, within))

-- there is one way to take the first word off
pub led_once : (first other : List ℕ) (rest after : Option (List ℕ)) → HasNoSpace first → HasNoSpace other → led first rest ≡ led other after → (first ≡ other) × (rest ≡ after)
led_once first other None None p q e = (e, refl)
led_once first other None (Some after) p q e = absurd (has_space other after (subst HasNoSpace e p))
led_once first other (Some rest) None p q e = absurd (has_space first rest (subst HasNoSpace (sym e) q))
led_once first other (Some rest) (Some after) p q e = let same = cut_once first rest other after p q e in (same.0, ap Some same.1)

-- what the first word begins with, the text begins with
pub led-append : (front back : List ℕ) (rest : Option (List ℕ)) → led (front ++ back) rest ≡ front ++ led back rest
led-append front back None = refl
led-append front back (Some rest) = append_assoc front back (32 ∷ rest)

-- what a text says of a peer that is no `any`
pub peer_is : (leg : Leg) (text : List ℕ) (found : SocketAddr) (address : Option SocketAddr) → text ≢ codes "any" → IsSocketText text found → IsPeerText leg text address → Some (Some found) ≡ Some address
peer_is leg text found (Some address) other says (none, also) = ap (λ a. Some (Some a)) (IsSocketText_unique text found address says also)
peer_is Calling text found None other says is = absurd (other is)
peer_is Called text found None other says is = absurd is

-- a word that begins otherwise is no option of this name
pub no_value : (name text first : List ℕ) (rest after : Option (List ℕ)) (value : Option ℕ) (least most : ℕ) → most < 2 ^ 32 → text ≡ led first rest → HasNoSpace first → HasNoSpace name → IsWithin least most value
    → ¬ (BeginsWith name first) → Some text ≡ option_led name value after → (value ≡ None) × (after ≡ Some text)
no_value name text first rest after None least most fits is none free small other e = (refl, sym e)
no_value name text first rest after (Some n) least most fits is none free small other e =
    let same_text : text ≡ led (name ++ decimal n) after = cc in
    let same = led_once first (name ++ decimal n) rest after none (NoSpace-append name (decimal n) free (NoSpace-decimal n (omega (arith, small.1, fits)))) (sym is ∙ same_text) in
    absurd (other (decimal n, same.0))

-- one that begins so is: with the digits of its value after its name
pub a_value : (name text first digits : List ℕ) (rest after : Option (List ℕ)) (value : Option ℕ) (least most : ℕ) → most < 2 ^ 32 → text ≡ led first rest → HasNoSpace first → HasNoSpace name → IsWithin least most value
    → first ≡ name ++ digits → (value ≡ None → StartsOtherwise name after) → Some text ≡ option_led name value after
    → (n : ℕ) × (value ≡ Some n) × (n < 2 ^ 32) × (digits ≡ decimal n) × (rest ≡ after)
a_value name text first digits rest after None least most fits is none free small begins otherwise e =
    let begun : text ≡ name ++ led digits rest = is ∙ ap (λ l. led l rest) begins ∙ led-append name digits rest in
    absurd (subst (StartsOtherwise name) (sym e) (otherwise refl) (led digits rest, begun))
a_value name text first digits rest after (Some n) least most fits is none free small begins otherwise e =
    let same_text : text ≡ led (name ++ decimal n) after = cc in
    let same = led_once first (name ++ decimal n) rest after none (NoSpace-append name (decimal n) free (NoSpace-decimal n (omega (arith, small.1, fits)))) (sym is ∙ same_text) in
    (n, refl, omega (arith, small.1, fits), append_cancel_left name digits (decimal n) (sym begins ∙ same.0), same.1)

-- after what is said of octets no option of the other name begins, if none does after them
pub octets_start_otherwise : (octets : Option ℕ) (rest : Option (List ℕ)) → StartsOtherwise (codes "redundancy=") rest → StartsOtherwise (codes "redundancy=") (option_led (codes "octets=") octets rest)
octets_start_otherwise None rest other = other
octets_start_otherwise (Some n) rest other = λ (begun : BeginsWith (codes "redundancy=") (led (codes "octets=" ++ decimal n) rest)).
    let front = led-append (codes "octets=") (decimal n) rest in
    let heads_alike : 111 ≡ 114 = heads 111 114 _ _ (sym front ∙ begun.1) in
    absurd (omega (arith, heads_alike))

-- bounds begin with an option, where they are said and nothing follows
options_begin : (redundancy octets : Option ℕ) → MayFollowNoTag (option_led (codes "redundancy=") redundancy (option_led (codes "octets=") octets None))
options_begin None None = tt
options_begin None (Some n) = inr (decimal n, refl)
options_begin (Some n) octets = inl (led (decimal n) (option_led (codes "octets=") octets None), led-append (codes "redundancy=") (decimal n) (option_led (codes "octets=") octets None))

pub bounds_begin : (bounds : Bounds) → MayFollowNoTag (bounds_led bounds None)
bounds_begin bounds = options_begin bounds.redundancy bounds.octets

-- nothing is no option, and `moved` neither
pub moved_is_no_option : (is_moved : Bool) → IsNoOption (moved_text is_moved)
moved_is_no_option false = (tt, tt)
moved_is_no_option true = (λ begun. let alike : 109 ≡ 114 = heads 109 114 _ _ begun.1 in absurd (omega (arith, alike)), λ begun. let alike : 109 ≡ 111 = heads 109 111 _ _ begun.1 in absurd (omega (arith, alike)))

-- what a text begins with and has no space, its first word begins with
pub front_of_first : (front first : List ℕ) (rest : Option (List ℕ)) → HasNoSpace front → BeginsWith front (led first rest) → BeginsWith front first
front_of_first [] first rest free begun = (first, refl)
front_of_first (x ∷ front) [] None free (back, e) = absurd (cc)
front_of_first (x ∷ front) [] (Some rest) free (back, e) = absurd (NoSpace-head x front free (sym (heads 32 x rest (front ++ back) e)))
front_of_first (x ∷ front) (y ∷ first) None free (back, e) = (back, e)
front_of_first (x ∷ front) (y ∷ first) (Some rest) free (back, e) =
    let alike : y ≡ x = heads y x (led first (Some rest)) (front ++ back) e in
    let (after, f) = front_of_first front first (Some rest) (NoSpace-tail x front free) (back, tails y x (led first (Some rest)) (front ++ back) e) in
    (after, cc)

pub option_of_first : (first : List ℕ) (rest : Option (List ℕ)) → IsOption (led first rest) → IsOption first
option_of_first first rest (inl begun) = inl (front_of_first (codes "redundancy=") first rest (NoSpace-by_test (codes "redundancy=") refl) begun)
option_of_first first rest (inr begun) = inr (front_of_first (codes "octets=") first rest (NoSpace-by_test (codes "octets=") refl) begun)

-- a word that begins as an option does is no tag
pub no_tag : (text first : List ℕ) (rest after tag : Option (List ℕ)) → text ≡ led first rest → HasNoSpace first → IsOption first → IfSome tag IsRingTag → Some text ≡ word_led tag after
    → (tag ≡ None) × (after ≡ Some text)
no_tag text first rest after None is none begins fits e = (refl, sym e)
no_tag text first rest after (Some tag) is none begins fits e =
    let same_text : text ≡ led tag after = cc in
    let same = led_once first tag rest after none fits.0.2 (sym is ∙ same_text) in
    absurd (is_no_option tag (subst IsOption same.0 begins) fits)
  where
    is_no_option : (tag : List ℕ) → IsOption tag → IsRingTag tag → ⊥
    is_no_option tag (inl begun) fits = fits.1 begun
    is_no_option tag (inr begun) fits = fits.2 begun

-- any other is one, if it can be
pub a_tag : (text first : List ℕ) (rest after tag : Option (List ℕ)) → text ≡ led first rest → HasNoSpace first → ¬ (IsOption first) → IfSome tag IsRingTag → (tag ≡ None → MayFollowNoTag after)
    → Some text ≡ word_led tag after → (tag ≡ Some first) × IsTag first × (rest ≡ after)
a_tag text first rest after None is none other fits follows e =
    absurd (other (option_of_first first rest (subst IsOption is (subst MayFollowNoTag (sym e) (follows refl)))))
a_tag text first rest after (Some tag) is none other fits follows e =
    let same_text : text ≡ led tag after = cc in
    let same = led_once first tag rest after none fits.0.2 (sym is ∙ same_text) in
    (ap Some (sym same.0), subst IsTag (sym same.0) fits.0, same.1)
