-- Which orders a text may spell, by its first word.
use Rattle.std.proofs.Common.{◌≡◌, ◌≢◌, ℕ, List, ◌∷◌, Bool, false, Option, None, Some, codes, IfSome, nat_eq, refl, sym, ◌∙◌, subst, arith}
use Rattle.std.proofs.lemmas.Bool.Decides.{nat_tests}
use Rattle.std.specs.declared.net.socket_addr.SocketAddr.{SocketAddr}
use Rattle.fax_control.specs.declared.word.Bounds.{Bounds}
use Rattle.fax_gateway.specs.declared.leg.Leg.{Leg}
use Rattle.fax_control.specs.Words.{Order, Ring, Peer, HangUp, Refuse, Report, Undelivered, Discard, Retry, Status, Metrics, Events, Frames, Reload, Stop, HasNoSpace, IsCallNumber, IsCause, IsInRange, IsName, IsPeerText, IsRingTag, IsRungLine, Spells, bounds_led, call_text, frames_text, led, moved_text, rung_text, spaced, word_led}
use Rattle.fax_gateway.specs.LegNames.{leg_text}
use Rattle.fax_control.proofs.SpaceLemmas.{heads, tails, has_space, cut_once, NoSpace-by_test}

-- two octets that differ do not begin one text
apart : {P : Type 0} (x y : ℕ) (xs ys : List ℕ) → nat_eq x y ≡ false → x ∷ xs ≡ y ∷ ys → P
apart x y xs ys other e = let same : x ≡ y = heads x y xs ys e in absurd (grind (arith, nat_tests))

-- nor do they stand second in one
second_apart : {P : Type 0} (x y z w : ℕ) (xs ys : List ℕ) → nat_eq y w ≡ false → x ∷ y ∷ xs ≡ z ∷ w ∷ ys → P
second_apart x y z w xs ys other e = apart y w xs ys other (tails x z (y ∷ xs) (w ∷ ys) e)

-- nor third
third_apart : {P : Type 0} (x y z u v w : ℕ) (xs ys : List ℕ) → nat_eq z w ≡ false → x ∷ y ∷ z ∷ xs ≡ u ∷ v ∷ w ∷ ys → P
third_apart x y z u v w xs ys other e = second_apart y z v w xs ys other (tails x u (y ∷ z ∷ xs) (v ∷ w ∷ ys) e)

-- what follows `ring`
pub ring_spelled : (rest : List ℕ) (order : Order) → Spells (spaced (codes "ring") rest) order
    → (line : Option (List ℕ)) × (tag : Option (List ℕ)) × (bounds : Bounds) × (order ≡ Ring line tag bounds) × (rest ≡ led (rung_text line) (word_led tag (bounds_led bounds None)))
    × IsRungLine line × IfSome tag IsRingTag × IsInRange bounds
ring_spelled rest (Ring line tag bounds) (e, name, is_tag, range) =
    let same : rest ≡ led (rung_text line) (word_led tag (bounds_led bounds None)) = cc in
    (line, tag, bounds, refl, same, name, is_tag, range)
ring_spelled rest (Peer line leg address bounds is_moved) (text, e, name, is_address, range) = apart 114 112 _ _ refl e
ring_spelled rest (HangUp line leg) (e, name) = apart 114 104 _ _ refl e
ring_spelled rest (Refuse line cause) (e, name, is_cause) = second_apart 114 105 114 101 _ _ refl e
ring_spelled rest (Report line) (e, name) = second_apart 114 105 114 101 _ _ refl e
ring_spelled rest (Undelivered None) (e, name) = apart 114 117 _ _ refl e
ring_spelled rest (Undelivered (Some line)) (e, name) = apart 114 117 _ _ refl e
ring_spelled rest (Discard line life call) (e, name, is_life, is_call) = apart 114 100 _ _ refl e
ring_spelled rest (Retry line life call) (e, name, is_life, is_call) = second_apart 114 105 114 101 _ _ refl e
ring_spelled rest Status e = apart 114 115 _ _ refl e
ring_spelled rest Metrics e = apart 114 109 _ _ refl e
ring_spelled rest Events e = apart 114 101 _ _ refl e
ring_spelled rest (Frames line) (e, name) = apart 114 101 _ _ refl e
ring_spelled rest Reload e = second_apart 114 105 114 101 _ _ refl e
ring_spelled rest Stop e = apart 114 115 _ _ refl e

-- what follows `peer`
pub peer_spelled : (rest : List ℕ) (order : Order) → Spells (spaced (codes "peer") rest) order
    → (line : List ℕ) × (leg : Leg) × (address : Option SocketAddr) × (bounds : Bounds) × (is_moved : Bool) × (text : List ℕ) × (order ≡ Peer line leg address bounds is_moved)
    × (rest ≡ spaced line (spaced (leg_text leg) (led text (bounds_led bounds (moved_text is_moved))))) × IsName line × IsPeerText leg text address × IsInRange bounds
peer_spelled rest (Ring line tag bounds) (e, name, is_tag, range) = apart 112 114 _ _ refl e
peer_spelled rest (Peer line leg address bounds is_moved) (text, e, name, is_address, range) =
    let same : rest ≡ spaced line (spaced (leg_text leg) (led text (bounds_led bounds (moved_text is_moved)))) = cc in
    (line, leg, address, bounds, is_moved, text, refl, same, name, is_address, range)
peer_spelled rest (HangUp line leg) (e, name) = apart 112 104 _ _ refl e
peer_spelled rest (Refuse line cause) (e, name, is_cause) = apart 112 114 _ _ refl e
peer_spelled rest (Report line) (e, name) = apart 112 114 _ _ refl e
peer_spelled rest (Undelivered None) (e, name) = apart 112 117 _ _ refl e
peer_spelled rest (Undelivered (Some line)) (e, name) = apart 112 117 _ _ refl e
peer_spelled rest (Discard line life call) (e, name, is_life, is_call) = apart 112 100 _ _ refl e
peer_spelled rest (Retry line life call) (e, name, is_life, is_call) = apart 112 114 _ _ refl e
peer_spelled rest Status e = apart 112 115 _ _ refl e
peer_spelled rest Metrics e = apart 112 109 _ _ refl e
peer_spelled rest Events e = apart 112 101 _ _ refl e
peer_spelled rest (Frames line) (e, name) = apart 112 101 _ _ refl e
peer_spelled rest Reload e = apart 112 114 _ _ refl e
peer_spelled rest Stop e = apart 112 115 _ _ refl e

-- what follows `hangup`
pub hangup_spelled : (rest : List ℕ) (order : Order) → Spells (spaced (codes "hangup") rest) order
    → (line : List ℕ) × (leg : Leg) × (order ≡ HangUp line leg) × (rest ≡ spaced line (leg_text leg)) × IsName line
hangup_spelled rest (Ring line tag bounds) (e, name, is_tag, range) = apart 104 114 _ _ refl e
hangup_spelled rest (Peer line leg address bounds is_moved) (text, e, name, is_address, range) = apart 104 112 _ _ refl e
hangup_spelled rest (HangUp line leg) (e, name) = let same : rest ≡ spaced line (leg_text leg) = cc in (line, leg, refl, same, name)
hangup_spelled rest (Refuse line cause) (e, name, is_cause) = apart 104 114 _ _ refl e
hangup_spelled rest (Report line) (e, name) = apart 104 114 _ _ refl e
hangup_spelled rest (Undelivered None) (e, name) = apart 104 117 _ _ refl e
hangup_spelled rest (Undelivered (Some line)) (e, name) = apart 104 117 _ _ refl e
hangup_spelled rest (Discard line life call) (e, name, is_life, is_call) = apart 104 100 _ _ refl e
hangup_spelled rest (Retry line life call) (e, name, is_life, is_call) = apart 104 114 _ _ refl e
hangup_spelled rest Status e = apart 104 115 _ _ refl e
hangup_spelled rest Metrics e = apart 104 109 _ _ refl e
hangup_spelled rest Events e = apart 104 101 _ _ refl e
hangup_spelled rest (Frames line) (e, name) = apart 104 101 _ _ refl e
hangup_spelled rest Reload e = apart 104 114 _ _ refl e
hangup_spelled rest Stop e = apart 104 115 _ _ refl e

-- what follows `report`
pub report_spelled : (rest : List ℕ) (order : Order) → Spells (spaced (codes "report") rest) order
    → (line : List ℕ) × (order ≡ Report line) × (rest ≡ line) × IsName line
report_spelled rest (Ring line tag bounds) (e, name, is_tag, range) = second_apart 114 101 114 105 _ _ refl e
report_spelled rest (Peer line leg address bounds is_moved) (text, e, name, is_address, range) = apart 114 112 _ _ refl e
report_spelled rest (HangUp line leg) (e, name) = apart 114 104 _ _ refl e
report_spelled rest (Refuse line cause) (e, name, is_cause) = third_apart 114 101 112 114 101 102 _ _ refl e
report_spelled rest (Report line) (e, name) = let same : rest ≡ line = cc in (line, refl, same, name)
report_spelled rest (Undelivered None) (e, name) = apart 114 117 _ _ refl e
report_spelled rest (Undelivered (Some line)) (e, name) = apart 114 117 _ _ refl e
report_spelled rest (Discard line life call) (e, name, is_life, is_call) = apart 114 100 _ _ refl e
report_spelled rest (Retry line life call) (e, name, is_life, is_call) = third_apart 114 101 112 114 101 116 _ _ refl e
report_spelled rest Status e = apart 114 115 _ _ refl e
report_spelled rest Metrics e = apart 114 109 _ _ refl e
report_spelled rest Events e = apart 114 101 _ _ refl e
report_spelled rest (Frames line) (e, name) = apart 114 101 _ _ refl e
report_spelled rest Reload e = third_apart 114 101 112 114 101 108 _ _ refl e
report_spelled rest Stop e = apart 114 115 _ _ refl e

-- what follows `refuse`
pub refuse_spelled : (rest : List ℕ) (order : Order) → Spells (spaced (codes "refuse") rest) order
    → (line : List ℕ) × (cause : List ℕ) × (order ≡ Refuse line cause) × (rest ≡ spaced line cause) × IsName line × IsCause cause
refuse_spelled rest (Ring line tag bounds) (e, name, is_tag, range) = second_apart 114 101 114 105 _ _ refl e
refuse_spelled rest (Peer line leg address bounds is_moved) (text, e, name, is_address, range) = apart 114 112 _ _ refl e
refuse_spelled rest (HangUp line leg) (e, name) = apart 114 104 _ _ refl e
refuse_spelled rest (Refuse line cause) (e, name, is_cause) = let same : rest ≡ spaced line cause = cc in (line, cause, refl, same, name, is_cause)
refuse_spelled rest (Report line) (e, name) = third_apart 114 101 102 114 101 112 _ _ refl e
refuse_spelled rest (Undelivered None) (e, name) = apart 114 117 _ _ refl e
refuse_spelled rest (Undelivered (Some line)) (e, name) = apart 114 117 _ _ refl e
refuse_spelled rest (Discard line life call) (e, name, is_life, is_call) = apart 114 100 _ _ refl e
refuse_spelled rest (Retry line life call) (e, name, is_life, is_call) = third_apart 114 101 102 114 101 116 _ _ refl e
refuse_spelled rest Status e = apart 114 115 _ _ refl e
refuse_spelled rest Metrics e = apart 114 109 _ _ refl e
refuse_spelled rest Events e = apart 114 101 _ _ refl e
refuse_spelled rest (Frames line) (e, name) = apart 114 101 _ _ refl e
refuse_spelled rest Reload e = third_apart 114 101 102 114 101 108 _ _ refl e
refuse_spelled rest Stop e = apart 114 115 _ _ refl e

-- what follows `undelivered`
pub undelivered_spelled : (rest : List ℕ) (order : Order) → Spells (spaced (codes "undelivered") rest) order
    → (line : List ℕ) × (order ≡ Undelivered (Some line)) × (rest ≡ line) × IsName line
undelivered_spelled rest (Ring line tag bounds) (e, name, is_tag, range) = apart 117 114 _ _ refl e
undelivered_spelled rest (Peer line leg address bounds is_moved) (text, e, name, is_address, range) = apart 117 112 _ _ refl e
undelivered_spelled rest (HangUp line leg) (e, name) = apart 117 104 _ _ refl e
undelivered_spelled rest (Refuse line cause) (e, name, is_cause) = apart 117 114 _ _ refl e
undelivered_spelled rest (Report line) (e, name) = apart 117 114 _ _ refl e
undelivered_spelled rest (Undelivered None) (e, name) = absurd (has_space (codes "undelivered") rest (subst HasNoSpace (sym e) (NoSpace-by_test (codes "undelivered") refl)))
undelivered_spelled rest (Undelivered (Some line)) (e, name) = let same : rest ≡ line = cc in (line, refl, same, name)
undelivered_spelled rest (Discard line life call) (e, name, is_life, is_call) = apart 117 100 _ _ refl e
undelivered_spelled rest (Retry line life call) (e, name, is_life, is_call) = apart 117 114 _ _ refl e
undelivered_spelled rest Status e = apart 117 115 _ _ refl e
undelivered_spelled rest Metrics e = apart 117 109 _ _ refl e
undelivered_spelled rest Events e = apart 117 101 _ _ refl e
undelivered_spelled rest (Frames line) (e, name) = apart 117 101 _ _ refl e
undelivered_spelled rest Reload e = apart 117 114 _ _ refl e
undelivered_spelled rest Stop e = apart 117 115 _ _ refl e

-- what follows `discard`
pub discard_spelled : (rest : List ℕ) (order : Order) → Spells (spaced (codes "discard") rest) order
    → (line : List ℕ) × (life : ℕ) × (call : ℕ) × (order ≡ Discard line life call) × (rest ≡ call_text line life call) × IsName line × IsCallNumber life × IsCallNumber call
discard_spelled rest (Ring line tag bounds) (e, name, is_tag, range) = apart 100 114 _ _ refl e
discard_spelled rest (Peer line leg address bounds is_moved) (text, e, name, is_address, range) = apart 100 112 _ _ refl e
discard_spelled rest (HangUp line leg) (e, name) = apart 100 104 _ _ refl e
discard_spelled rest (Refuse line cause) (e, name, is_cause) = apart 100 114 _ _ refl e
discard_spelled rest (Report line) (e, name) = apart 100 114 _ _ refl e
discard_spelled rest (Undelivered None) (e, name) = apart 100 117 _ _ refl e
discard_spelled rest (Undelivered (Some line)) (e, name) = apart 100 117 _ _ refl e
discard_spelled rest (Discard line life call) (e, name, is_life, is_call) = let same : rest ≡ call_text line life call = cc in (line, life, call, refl, same, name, is_life, is_call)
discard_spelled rest (Retry line life call) (e, name, is_life, is_call) = apart 100 114 _ _ refl e
discard_spelled rest Status e = apart 100 115 _ _ refl e
discard_spelled rest Metrics e = apart 100 109 _ _ refl e
discard_spelled rest Events e = apart 100 101 _ _ refl e
discard_spelled rest (Frames line) (e, name) = apart 100 101 _ _ refl e
discard_spelled rest Reload e = apart 100 114 _ _ refl e
discard_spelled rest Stop e = apart 100 115 _ _ refl e

-- what follows `retry`
pub retry_spelled : (rest : List ℕ) (order : Order) → Spells (spaced (codes "retry") rest) order
    → (line : List ℕ) × (life : ℕ) × (call : ℕ) × (order ≡ Retry line life call) × (rest ≡ call_text line life call) × IsName line × IsCallNumber life × IsCallNumber call
retry_spelled rest (Ring line tag bounds) (e, name, is_tag, range) = second_apart 114 101 114 105 _ _ refl e
retry_spelled rest (Peer line leg address bounds is_moved) (text, e, name, is_address, range) = apart 114 112 _ _ refl e
retry_spelled rest (HangUp line leg) (e, name) = apart 114 104 _ _ refl e
retry_spelled rest (Refuse line cause) (e, name, is_cause) = third_apart 114 101 116 114 101 102 _ _ refl e
retry_spelled rest (Report line) (e, name) = third_apart 114 101 116 114 101 112 _ _ refl e
retry_spelled rest (Undelivered None) (e, name) = apart 114 117 _ _ refl e
retry_spelled rest (Undelivered (Some line)) (e, name) = apart 114 117 _ _ refl e
retry_spelled rest (Discard line life call) (e, name, is_life, is_call) = apart 114 100 _ _ refl e
retry_spelled rest (Retry line life call) (e, name, is_life, is_call) = let same : rest ≡ call_text line life call = cc in (line, life, call, refl, same, name, is_life, is_call)
retry_spelled rest Status e = apart 114 115 _ _ refl e
retry_spelled rest Metrics e = apart 114 109 _ _ refl e
retry_spelled rest Events e = apart 114 101 _ _ refl e
retry_spelled rest (Frames line) (e, name) = apart 114 101 _ _ refl e
retry_spelled rest Reload e = third_apart 114 101 116 114 101 108 _ _ refl e
retry_spelled rest Stop e = apart 114 115 _ _ refl e

-- what follows `events`
pub events_spelled : (rest : List ℕ) (order : Order) → Spells (spaced (codes "events") rest) order
    → (line : List ℕ) × (order ≡ Frames line) × (rest ≡ spaced (codes "frames") line) × IsName line
events_spelled rest (Ring line tag bounds) (e, name, is_tag, range) = apart 101 114 _ _ refl e
events_spelled rest (Peer line leg address bounds is_moved) (text, e, name, is_address, range) = apart 101 112 _ _ refl e
events_spelled rest (HangUp line leg) (e, name) = apart 101 104 _ _ refl e
events_spelled rest (Refuse line cause) (e, name, is_cause) = apart 101 114 _ _ refl e
events_spelled rest (Report line) (e, name) = apart 101 114 _ _ refl e
events_spelled rest (Undelivered None) (e, name) = apart 101 117 _ _ refl e
events_spelled rest (Undelivered (Some line)) (e, name) = apart 101 117 _ _ refl e
events_spelled rest (Discard line life call) (e, name, is_life, is_call) = apart 101 100 _ _ refl e
events_spelled rest (Retry line life call) (e, name, is_life, is_call) = apart 101 114 _ _ refl e
events_spelled rest Status e = apart 101 115 _ _ refl e
events_spelled rest Metrics e = apart 101 109 _ _ refl e
events_spelled rest Events e = absurd (has_space (codes "events") rest (subst HasNoSpace (sym e) (NoSpace-by_test (codes "events") refl)))
events_spelled rest (Frames line) (e, name) = let same : rest ≡ spaced (codes "frames") line = cc in (line, refl, same, name)
events_spelled rest Reload e = apart 101 114 _ _ refl e
events_spelled rest Stop e = apart 101 115 _ _ refl e

-- the one name that may follow `events frames`
pub frames_spelled : (rest : List ℕ) (order : Order) → Spells (frames_text rest) order → (order ≡ Frames rest) × IsName rest
frames_spelled rest order says =
    let (line, is, e, name) = events_spelled (spaced (codes "frames") rest) order says in
    let none = NoSpace-by_test (codes "frames") refl in
    let same = (cut_once (codes "frames") rest (codes "frames") line none none e).1 in
    rw same (is, name)

-- a text with no space that is none of the bare words spells nothing
pub no_bare_word : (text : List ℕ) (order : Order) → HasNoSpace text → text ≢ codes "status" → text ≢ codes "metrics" → text ≢ codes "events" → text ≢ codes "stop" → text ≢ codes "undelivered" → text ≢ codes "reload" → Spells text order → ⊥
no_bare_word text (Ring line tag bounds) none a b c d f g (e, name, is_tag, range) = has_space (codes "ring") (led (rung_text line) (word_led tag (bounds_led bounds None))) (subst HasNoSpace e none)
no_bare_word text (Peer line leg address bounds is_moved) none a b c d f g (peer_text, e, name, is_address, range) = has_space (codes "peer") (spaced line (spaced (leg_text leg) (led peer_text (bounds_led bounds (moved_text is_moved))))) (subst HasNoSpace e none)
no_bare_word text (HangUp line leg) none a b c d f g (e, name) = has_space (codes "hangup") (spaced line (leg_text leg)) (subst HasNoSpace e none)
no_bare_word text (Refuse line cause) none a b c d f g (e, name, is_cause) = has_space (codes "refuse") (spaced line cause) (subst HasNoSpace e none)
no_bare_word text (Report line) none a b c d f g (e, name) = has_space (codes "report") line (subst HasNoSpace e none)
no_bare_word text (Undelivered None) none a b c d f g (e, name) = f e
no_bare_word text (Undelivered (Some line)) none a b c d f g (e, name) = has_space (codes "undelivered") line (subst HasNoSpace e none)
no_bare_word text (Discard line life call) none a b c d f g (e, name, is_life, is_call) = has_space (codes "discard") (call_text line life call) (subst HasNoSpace e none)
no_bare_word text (Retry line life call) none a b c d f g (e, name, is_life, is_call) = has_space (codes "retry") (call_text line life call) (subst HasNoSpace e none)
no_bare_word text Status none a b c d f g e = a e
no_bare_word text Metrics none a b c d f g e = b e
no_bare_word text Events none a b c d f g e = c e
no_bare_word text (Frames line) none a b c d f g (e, name) = has_space (codes "events") (spaced (codes "frames") line) (subst HasNoSpace e none)
no_bare_word text Reload none a b c d f g e = g e
no_bare_word text Stop none a b c d f g e = d e

-- a text whose first word is none of these spells nothing
pub no_verb : (text verb rest : List ℕ) (order : Order) → text ≡ spaced verb rest → HasNoSpace verb → verb ≢ codes "ring" → verb ≢ codes "peer" → verb ≢ codes "hangup" → verb ≢ codes "report" → verb ≢ codes "refuse" → verb ≢ codes "undelivered" → verb ≢ codes "discard" → verb ≢ codes "retry" → verb ≢ codes "events" → Spells text order → ⊥
no_verb text verb rest (Ring line tag bounds) cut none a b c d f g h i j (e, name, is_tag, range) = a (cut_once verb rest (codes "ring") (led (rung_text line) (word_led tag (bounds_led bounds None))) none (NoSpace-by_test (codes "ring") refl) (sym cut ∙ e)).0
no_verb text verb rest (Peer line leg address bounds is_moved) cut none a b c d f g h i j (peer_text, e, name, is_address, range) =
    b (cut_once verb rest (codes "peer") (spaced line (spaced (leg_text leg) (led peer_text (bounds_led bounds (moved_text is_moved))))) none (NoSpace-by_test (codes "peer") refl) (sym cut ∙ e)).0
no_verb text verb rest (HangUp line leg) cut none a b c d f g h i j (e, name) = c (cut_once verb rest (codes "hangup") (spaced line (leg_text leg)) none (NoSpace-by_test (codes "hangup") refl) (sym cut ∙ e)).0
no_verb text verb rest (Refuse line cause) cut none a b c d f g h i j (e, name, is_cause) = f (cut_once verb rest (codes "refuse") (spaced line cause) none (NoSpace-by_test (codes "refuse") refl) (sym cut ∙ e)).0
no_verb text verb rest (Report line) cut none a b c d f g h i j (e, name) = d (cut_once verb rest (codes "report") line none (NoSpace-by_test (codes "report") refl) (sym cut ∙ e)).0
no_verb text verb rest (Undelivered None) cut none a b c d f g h i j (e, name) = has_space verb rest (subst HasNoSpace (sym e ∙ cut) (NoSpace-by_test (codes "undelivered") refl))
no_verb text verb rest (Undelivered (Some line)) cut none a b c d f g h i j (e, name) = g (cut_once verb rest (codes "undelivered") line none (NoSpace-by_test (codes "undelivered") refl) (sym cut ∙ e)).0
no_verb text verb rest (Discard line life call) cut none a b c d f g h i j (e, name, is_life, is_call) = h (cut_once verb rest (codes "discard") (call_text line life call) none (NoSpace-by_test (codes "discard") refl) (sym cut ∙ e)).0
no_verb text verb rest (Retry line life call) cut none a b c d f g h i j (e, name, is_life, is_call) = i (cut_once verb rest (codes "retry") (call_text line life call) none (NoSpace-by_test (codes "retry") refl) (sym cut ∙ e)).0
no_verb text verb rest Status cut none a b c d f g h i j e = has_space verb rest (subst HasNoSpace (sym e ∙ cut) (NoSpace-by_test (codes "status") refl))
no_verb text verb rest Metrics cut none a b c d f g h i j e = has_space verb rest (subst HasNoSpace (sym e ∙ cut) (NoSpace-by_test (codes "metrics") refl))
no_verb text verb rest Events cut none a b c d f g h i j e = has_space verb rest (subst HasNoSpace (sym e ∙ cut) (NoSpace-by_test (codes "events") refl))
no_verb text verb rest (Frames line) cut none a b c d f g h i j (e, name) = j (cut_once verb rest (codes "events") (spaced (codes "frames") line) none (NoSpace-by_test (codes "events") refl) (sym cut ∙ e)).0
no_verb text verb rest Reload cut none a b c d f g h i j e = has_space verb rest (subst HasNoSpace (sym e ∙ cut) (NoSpace-by_test (codes "reload") refl))
no_verb text verb rest Stop cut none a b c d f g h i j e = has_space verb rest (subst HasNoSpace (sym e ∙ cut) (NoSpace-by_test (codes "stop") refl))
