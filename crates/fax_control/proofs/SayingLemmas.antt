-- What is known of an order once the words of its text are taken off, one by one.
use Rattle.std.proofs.Common.{◌≡◌, ℕ, List, Bool, Option, None, Some, codes, IfSome, refl, sym, ◌∙◌, subst}
use Rattle.std.specs.declared.net.socket_addr.SocketAddr.{SocketAddr}
use Rattle.fax_control.specs.declared.word.Bounds.{Bounds}
use Rattle.fax_gateway.specs.declared.leg.Leg.{Leg}
use Rattle.fax_gateway.specs.declared.leg.Leg.TheVariants.{Calling, Called}
use Rattle.fax_control.specs.Words.{Order, Ring, Peer, HasNoSpace, IsInRange, IsName, IsPeerText, IsRingTag, IsRungLine, Spells, bounds_led, led, moved_text, rung_text, spaced, word_led}
use Rattle.fax_gateway.specs.LegNames.{leg_text}
use Rattle.fax_control.proofs.SpaceLemmas.{has_space, cut_once, NoSpace-by_test}
use Rattle.fax_control.proofs.OptionLemmas.{led_once}
use Rattle.fax_control.proofs.WordLemmas.{ring_spelled, peer_spelled}

-- The order is a ring, and these are its words: which line, and those after it.
pub record SaysRing (order : Order) (word : List ℕ) (words : Option (List ℕ)) : Type 0 where
  pub line : Option (List ℕ)
  pub tag : Option (List ℕ)
  pub bounds : Bounds
  pub is : order ≡ Ring line tag bounds
  pub word_is : word ≡ rung_text line
  pub line_fits : IsRungLine line
  pub words_are : words ≡ word_led tag (bounds_led bounds None)
  pub tag_fits : IfSome tag IsRingTag
  pub range : IsInRange bounds

rung_has_no_space : (line : Option (List ℕ)) → IsRungLine line → HasNoSpace (rung_text line)
rung_has_no_space None fits = NoSpace-by_test (codes "any") refl
rung_has_no_space (Some line) fits = fits.0.1

pub ring_says : (rest word : List ℕ) (words : Option (List ℕ)) (order : Order) → rest ≡ led word words → HasNoSpace word → Spells (spaced (codes "ring") rest) order → SaysRing order word words
ring_says rest word words order is none says =
    let (line, tag, bounds, same, e, fits, is_tag, in_range) = ring_spelled rest order says in
    let both = led_once word (rung_text line) words (word_led tag (bounds_led bounds None)) none (rung_has_no_space line fits) (sym is ∙ e) in
    record { line = line; tag = tag; bounds = bounds; is = same; word_is = both.0; line_fits = fits; words_are = both.1; tag_fits = is_tag; range = in_range }

-- The order says a peer of this line, and these are the words after it: of a leg, and what follows.
pub record SaysLeg (order : Order) (line word after : List ℕ) : Type 0 where
  pub leg : Leg
  pub address : Option SocketAddr
  pub bounds : Bounds
  pub is_moved : Bool
  pub text : List ℕ
  pub is : order ≡ Peer line leg address bounds is_moved
  pub name : IsName line
  pub word_is : word ≡ leg_text leg
  pub after_is : after ≡ led text (bounds_led bounds (moved_text is_moved))
  pub peer : IsPeerText leg text address
  pub range : IsInRange bounds

pub leg_has_no_space : (leg : Leg) → HasNoSpace (leg_text leg)
leg_has_no_space Calling = NoSpace-by_test (codes "calling") refl
leg_has_no_space Called = NoSpace-by_test (codes "called") refl

-- a text with no space says no peer, nor one with one space
pub no_peer : (rest : List ℕ) (order : Order) → HasNoSpace rest → Spells (spaced (codes "peer") rest) order → ⊥
no_peer rest order none says =
    let (line, leg, address, bounds, is_moved, text, is, e, name, is_peer, in_range) = peer_spelled rest order says in
    has_space line (spaced (leg_text leg) (led text (bounds_led bounds (moved_text is_moved)))) (subst HasNoSpace e none)

pub no_leg : (rest line more : List ℕ) (order : Order) → rest ≡ spaced line more → HasNoSpace line → HasNoSpace more → Spells (spaced (codes "peer") rest) order → ⊥
no_leg rest name_said more order cut none whole says =
    let (line, leg, address, bounds, is_moved, text, is, e, name, is_peer, in_range) = peer_spelled rest order says in
    let after = led text (bounds_led bounds (moved_text is_moved)) in
    let same = cut_once name_said more line (spaced (leg_text leg) after) none name.1 (sym cut ∙ e) in
    has_space (leg_text leg) after (subst HasNoSpace same.1 whole)

pub leg_says : (rest line more word after : List ℕ) (order : Order) → rest ≡ spaced line more → HasNoSpace line → more ≡ spaced word after → HasNoSpace word
    → Spells (spaced (codes "peer") rest) order → SaysLeg order line word after
leg_says rest name_said more word after order cut none again free says =
    let (line, leg, address, bounds, is_moved, text, is, e, name, is_peer, in_range) = peer_spelled rest order says in
    let follows = led text (bounds_led bounds (moved_text is_moved)) in
    let same = cut_once name_said more line (spaced (leg_text leg) follows) none name.1 (sym cut ∙ e) in
    let same_leg = cut_once word after (leg_text leg) follows free (leg_has_no_space leg) (sym again ∙ same.1) in
    record {
      leg = leg;
      address = address;
      bounds = bounds;
      is_moved = is_moved;
      text = text;
      is = subst (λ l. order ≡ Peer l leg address bounds is_moved) (sym same.0) is;
      name = subst IsName (sym same.0) name;
      word_is = same_leg.0;
      after_is = same_leg.1;
      peer = is_peer;
      range = in_range;
    }

peer_has_no_space : (leg : Leg) (text : List ℕ) (address : Option SocketAddr) → IsPeerText leg text address → HasNoSpace text
peer_has_no_space leg text (Some address) is = is.0
peer_has_no_space Calling text None is = subst HasNoSpace (sym is) (NoSpace-by_test (codes "any") refl)
peer_has_no_space Called text None is = absurd is

-- the words after the leg
pub words_say : (order : Order) (line word after first : List ℕ) (words : Option (List ℕ)) (known : SaysLeg order line word after) → after ≡ led first words → HasNoSpace first
    → (first ≡ known.text) × (words ≡ bounds_led known.bounds (moved_text known.is_moved))
words_say order line word after first words known is none =
    led_once first known.text words (bounds_led known.bounds (moved_text known.is_moved)) none (peer_has_no_space known.leg known.text known.address known.peer) (sym is ∙ known.after_is)
