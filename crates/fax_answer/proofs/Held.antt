-- What is held of images while pieces come.
use Rattle.std.proofs.Common.{◌≡◌, ℕ, zero, suc, ◌+◌, ◌<◌, ◌≤◌, ◌&&◌, nat_eq, nat_le, max, min, not, Bool, true, false, List, [], ◌∷◌, ◌++◌, length, Option, Some, None, refl, sym, ◌∙◌, ap, subst, arith, zero-add, if◌then◌else◌}
use Rattle.std.proofs.lemmas.List.{length-append}
use Rattle.fax_frames.specs.declared.dcs.Dcs.{Dcs}
use Rattle.fax_frames.specs.Capabilities.{format_of, coding_of}
use Rattle.fax_pagestore.specs.Pages.{PageValue}
use Rattle.fax_pagestore.specs.Fill.{less_fill, zeros_after}
use Rattle.fax_pagestore.specs.Readers.{ReaderValue, new_reader}
use Rattle.fax_pagestore.proofs.ReaderLemmas.{nothing_read}
use Rattle.fax_ifp.specs.Pieces.{Frame, Start, Octets, End, Gap}
use Rattle.fax_answer.specs.declared.command.Command.{Command}
use Rattle.fax_answer.specs.declared.command.Command.TheVariants.{Eom, Mps, Eop}
use Rattle.fax_answer.specs.declared.command.Order.{Order}
use Rattle.fax_answer.specs.declared.command.Order.TheVariants as orders
use Rattle.fax_answer.specs.declared.image.Accepted.{Accepted}
use Rattle.fax_answer.specs.declared.state.State.{State}
use Rattle.fax_answer.specs.declared.state.State.TheVariants.{Idle, Identify, Listen, Train, Page, Again, Closing}
use Rattle.fax_answer.specs.Orders.{order_of}
use Rattle.fax_answer.specs.History.{Entry, Decision, PassesOver, Trains, HangsUp, GivesCfr, GivesFtt, GivesMcf, GivesRtn, is_answer, since_answer, images, gap, octets_since, last_image, last_whole}
use Rattle.fax_answer.specs.Table.{Reading, zeros, longest_zeros, is_one_image, is_quiet, is_repeat, judged, on_order, decision, state_after}
use Rattle.fax_answer.specs.Replies.{ConfirmedPage}
use Rattle.fax_answer.specs.Images.{ImageValue, IsReaderOf, HasOpen, HasEnded, begun, Feeds, FeedsIn, TakesIn, MeansAt, Confirms, run_after, longest_after}
use Rattle.fax_answer.specs.Reached.{Holds, HoldsPage}
use Rattle.fax_answer.proofs.ImageLemmas.{run_after-append, longest_after-append}

-- WHERE ONE IMAGE IS ASKED FOR: it is the one since the last answer, with nothing after it
none_one : is_one_image [] ≡ true → ⊥
none_one h = cc

-- where a slot is missing or a signal begins, no image is asked for
gap_off : (n : ℕ) (w : Bool) → (nat_eq n 1 && (w && not true)) ≡ true → ⊥
gap_off n w h = by (nat_eq n 1) w h
  where
    by : (a b : Bool) → (a && (b && false)) ≡ true → ⊥
    by true true h = cc
    by true false h = cc
    by false b h = cc

no_gap : (b : Bool) (h : List Entry) (d : Decision) → is_one_image (if◌then◌else◌ {A = List Entry} b [] (record { piece = Gap; decision = d } ∷ since_answer h)) ≡ true → ⊥
no_gap true h d k = none_one k
no_gap false h d k = gap_off (0 + images (since_answer h)) (last_whole (since_answer h)) k

no_start : (b : Bool) (h : List Entry) (kind : ℕ) (d : Decision) → is_one_image (if◌then◌else◌ {A = List Entry} b [] (record { piece = Start kind; decision = d } ∷ since_answer h)) ≡ true → ⊥
no_start true h kind d k = none_one k
no_start false h kind d k = gap_off (0 + images (since_answer h)) (last_whole (since_answer h)) k

-- a frame, and octets, leave it so where nothing is answered
same_one : (h : List Entry) → is_one_image (since_answer h) ≡ (nat_eq (0 + images (since_answer h)) 1 && (last_whole (since_answer h) && not (gap (since_answer h))))
same_one h = ap (λ (n : ℕ). nat_eq n 1 && (last_whole (since_answer h) && not (gap (since_answer h)))) (sym (zero-add (images (since_answer h))))

frame_one : (b : Bool) (h : List Entry) (octets : List ℕ) (d : Decision) → is_one_image (if◌then◌else◌ {A = List Entry} b [] (record { piece = Frame octets; decision = d } ∷ since_answer h)) ≡ true
    → (b ≡ false) × (is_one_image (since_answer h) ≡ true)
frame_one true h octets d k = absurd (none_one k)
frame_one false h octets d k = (refl, same_one h ∙ k)

octets_one : (b : Bool) (h : List Entry) (octets : List ℕ) (d : Decision) → is_one_image (if◌then◌else◌ {A = List Entry} b [] (record { piece = Octets octets; decision = d } ∷ since_answer h)) ≡ true
    → is_one_image (since_answer h) ≡ true
octets_one true h octets d k = absurd (none_one k)
octets_one false h octets d k = same_one h ∙ k

end_one : (b : Bool) (h : List Entry) (whole : Bool) (d : Decision) → is_one_image (if◌then◌else◌ {A = List Entry} b [] (record { piece = End whole; decision = d } ∷ since_answer h)) ≡ true → b ≡ false
end_one true h whole d k = absurd (none_one k)
end_one false h whole d k = refl

-- IN PAGE. What is no CFR leaves a state that is no Page.
abbrev pub IsNoCfr : Decision → Type 0
IsNoCfr PassesOver = Unit {0}
IsNoCfr (Trains dcs) = Unit {0}
IsNoCfr HangsUp = Unit {0}
IsNoCfr (GivesCfr dcs) = ⊥
IsNoCfr GivesFtt = Unit {0}
IsNoCfr (GivesMcf command page) = Unit {0}
IsNoCfr GivesRtn = Unit {0}

pub in_page : (s : State) (d : Decision) (dcs : Dcs) → IsNoCfr d → state_after s d ≡ Page dcs → s ≡ Page dcs
in_page s PassesOver dcs n e = e
in_page s (Trains t) dcs n e = cc
in_page s HangsUp dcs n e = cc
in_page s (GivesCfr c) dcs n e = absurd n
in_page s GivesFtt dcs n e = cc
in_page s (GivesMcf Eom page) dcs n e = cc
in_page s (GivesMcf Mps page) dcs n e = e
in_page s (GivesMcf Eop page) dcs n e = e
in_page s GivesRtn dcs n e = e

unanswered : (d : Decision) → is_answer d ≡ false → IsNoCfr d
unanswered PassesOver e = tt
unanswered (Trains t) e = tt
unanswered HangsUp e = tt
unanswered (GivesCfr c) e = cc
unanswered GivesFtt e = tt
unanswered (GivesMcf command page) e = tt
unanswered GivesRtn e = tt

-- a frame is answered by no CFR
command_no_cfr : (b c : Bool) (command : Command) (read : Reading) → IsNoCfr (if b then judged command read else if c then GivesMcf command None else GivesRtn)
command_no_cfr true c command (Some page) = tt
command_no_cfr true c command None = tt
command_no_cfr false true command read = tt
command_no_cfr false false command read = tt

again_no_cfr : (b : Bool) → IsNoCfr (if b then GivesMcf Eom None else GivesRtn)
again_no_cfr true = tt
again_no_cfr false = tt

order_no_cfr : (read : Reading) (s : State) (h : List Entry) (order : Order) → IsNoCfr (on_order read s h order)
order_no_cfr read Idle h order = tt
order_no_cfr read Closing h order = tt
order_no_cfr read Identify h (orders.Train d) = tt
order_no_cfr read Identify h (orders.Judge c) = tt
order_no_cfr read Identify h orders.Disconnect = tt
order_no_cfr read Identify h orders.Nothing = tt
order_no_cfr read Listen h (orders.Train d) = tt
order_no_cfr read Listen h (orders.Judge c) = tt
order_no_cfr read Listen h orders.Disconnect = tt
order_no_cfr read Listen h orders.Nothing = tt
order_no_cfr read (Train t) h (orders.Train d) = tt
order_no_cfr read (Train t) h (orders.Judge c) = tt
order_no_cfr read (Train t) h orders.Disconnect = tt
order_no_cfr read (Train t) h orders.Nothing = tt
order_no_cfr read (Page t) h (orders.Train d) = tt
order_no_cfr read (Page t) h (orders.Judge c) = command_no_cfr (is_one_image (since_answer h)) (is_repeat h c) c read
order_no_cfr read (Page t) h orders.Disconnect = tt
order_no_cfr read (Page t) h orders.Nothing = tt
order_no_cfr read Again h (orders.Train d) = tt
order_no_cfr read Again h (orders.Judge Eom) = again_no_cfr (is_quiet (since_answer h))
order_no_cfr read Again h (orders.Judge Mps) = tt
order_no_cfr read Again h (orders.Judge Eop) = tt
order_no_cfr read Again h orders.Disconnect = tt
order_no_cfr read Again h orders.Nothing = tt

pub frame_no_cfr : (read : Reading) (s : State) (waits : Bool) (h : List Entry) (octets : List ℕ) → IsNoCfr (decision read s waits h (Frame octets))
frame_no_cfr read s true h octets = tt
frame_no_cfr read s false h octets = order_no_cfr read s h (order_of octets)

-- A FRAME. Nothing is read; an image is accepted where MCF is decided.
page_frame : (dcs : Dcs) (h : List Entry) (i j : ImageValue) (octets : List ℕ) (d : Decision) → j.readers ≡ i.readers → (is_answer d ≡ false → j.accepted ≡ i.accepted) → HoldsPage dcs h i
    → HoldsPage dcs (record { piece = Frame octets; decision = d } ∷ h) j
page_frame dcs h i j octets d readers accepted p =
    record {
      openly = subst (HasOpen dcs (octets_since h)) (sym readers) p.openly;
      last = λ k. subst (HasEnded dcs (last_image h)) (sym readers) (p.last (frame_one (is_answer d) h octets d k).1);
      apart = λ a e k.
          let one = frame_one (is_answer d) h octets d k in
          let few : a.place + 2 < length i.readers = p.apart a (sym (accepted one.0) ∙ e) one.1 in
          subst (λ (r : List ReaderValue). a.place + 2 < length r) (sym readers) few;
    }

pub holds_frame : (s : State) (h : List Entry) (i j : ImageValue) (octets : List ℕ) (d : Decision) → IsNoCfr d → j.readers ≡ i.readers → (is_answer d ≡ false → j.accepted ≡ i.accepted) → j.run ≡ i.run → j.longest ≡ i.longest
    → Holds s h i → Holds (state_after s d) (record { piece = Frame octets; decision = d } ∷ h) j
holds_frame s h i j octets d n readers accepted run longest x =
    record { run = run ∙ x.run; longest = longest ∙ x.longest; page = λ dcs e. page_frame dcs h i j octets d readers accepted (x.page dcs (in_page s d dcs n e)) }

-- A GAP
pub holds_gap : (s : State) (h : List Entry) (i : ImageValue) → Holds s h i → Holds s (record { piece = Gap; decision = PassesOver } ∷ h) i
holds_gap s h i x =
    record {
      run = x.run;
      longest = x.longest;
      page = λ dcs e. record { openly = (x.page dcs e).openly; last = λ k. absurd (no_gap false h PassesOver k); apart = λ a f k. absurd (no_gap false h PassesOver k) };
    }

-- A SIGNAL begins, or ends
begun_in : (s : State) (dcs : Dcs) (readers : List ReaderValue) → s ≡ Page dcs → begun s readers ≡ new_reader (format_of dcs) (coding_of dcs) ∷ readers
begun_in s dcs readers e = ap (λ (x : State). begun x readers) e

new_of : (dcs : Dcs) → IsReaderOf dcs [] (new_reader (format_of dcs) (coding_of dcs))
unfolding less_fill zeros_after
new_of dcs = record { format = refl; coding = refl; read = record { others = []; read_as = λ more rows fault judged. judged; after = nothing_read (format_of dcs) (coding_of dcs); zeros = λ not_yet. refl } }

pub holds_start : (s : State) (h : List Entry) (i : ImageValue) (kind : ℕ) → Holds s (record { piece = Start kind; decision = PassesOver } ∷ h) (record { readers = begun s i.readers; accepted = i.accepted; run = 0; longest = 0 })
holds_start s h i kind =
    record {
      run = refl;
      longest = refl;
      page = λ dcs e. record {
        openly = subst (HasOpen dcs []) (sym (begun_in s dcs i.readers e)) (new_of dcs);
        last = λ k. absurd (no_start false h kind PassesOver k);
        apart = λ a f k. absurd (no_start false h kind PassesOver k);
      };
    }

ended_after : (dcs : Dcs) (octets : List ℕ) (r : ReaderValue) (readers : List ReaderValue) → HasOpen dcs octets readers → HasEnded dcs octets (r ∷ readers)
ended_after dcs octets r [] h = absurd h
ended_after dcs octets r (here ∷ before) h = h

means_apart : (readers : List ReaderValue) (place : ℕ) (page : PageValue) → MeansAt readers place page → place + 1 < length readers
means_apart readers place page at =
    let long : length readers ≡ suc (length at.later + suc (length at.before)) = ap length at.are ∙ ap suc (length-append at.later (at.reader ∷ at.before)) in
    let is : place ≡ length at.before = at.place_is in
    omega arith

confirms_apart : (accepted : Option Accepted) (readers : List ReaderValue) (k c : Option ConfirmedPage) (a : Accepted) → Confirms accepted readers k c → accepted ≡ Some a → a.place + 1 < length readers
confirms_apart None readers k c a f e = cc
confirms_apart (Some b) readers k c a f e =
    let few : b.place + 1 < length readers = means_apart readers b.place f.0 f.1 in
    let same : b ≡ a = cc in
    subst (λ (x : Accepted). x.place + 1 < length readers) same few

pub holds_end : (s : State) (h : List Entry) (i : ImageValue) (whole : Bool) (d : Decision) (k c : Option ConfirmedPage) → Holds s h i → Confirms i.accepted i.readers k c →
    Holds (state_after s d) (record { piece = End whole; decision = d } ∷ h) (record { readers = begun (state_after s d) i.readers; accepted = i.accepted; run = 0; longest = 0 })
holds_end s h i whole d k c x f =
    record {
      run = refl;
      longest = refl;
      page = λ dcs e. record {
        openly = subst (HasOpen dcs []) (sym (begun_in (state_after s d) dcs i.readers e)) (new_of dcs);
        last = λ one.
            let p : HoldsPage dcs h i = x.page dcs (in_page s d dcs (unanswered d (end_one (is_answer d) h whole d one)) e) in
            subst (HasEnded dcs (octets_since h)) (sym (begun_in (state_after s d) dcs i.readers e)) (ended_after dcs (octets_since h) (new_reader (format_of dcs) (coding_of dcs)) i.readers p.openly);
        apart = λ a g one.
            let few : a.place + 1 < length i.readers = confirms_apart i.accepted i.readers k c a f g in
            let long : length (begun (state_after s d) i.readers) ≡ suc (length i.readers) = ap length (begun_in (state_after s d) dcs i.readers e) in
            omega arith;
      };
    }

-- OCTETS
fed_open : (dcs : Dcs) (octets piece : List ℕ) (xs ys : List ReaderValue) → Feeds piece xs ys → HasOpen dcs octets xs → HasOpen dcs (octets ++ piece) ys
fed_open dcs octets piece [] ys f h = absurd h
fed_open dcs octets piece (here ∷ before) ys f h =
    subst (HasOpen dcs (octets ++ piece)) (sym f.1)
    (record { format = f.2.extends.format ∙ h.format; coding = f.2.extends.coding ∙ h.coding; read = f.2.read octets h.read })

fed_ended : (dcs : Dcs) (octets piece : List ℕ) (xs ys : List ReaderValue) → Feeds piece xs ys → HasEnded dcs octets xs → HasEnded dcs octets ys
fed_ended dcs octets piece [] ys f h = absurd h
fed_ended dcs octets piece (here ∷ []) ys f h = absurd h
fed_ended dcs octets piece (here ∷ ended ∷ before) ys f h = subst (HasEnded dcs octets) (sym f.1) h

fed_long : (piece : List ℕ) (xs ys : List ReaderValue) → Feeds piece xs ys → length ys ≡ length xs
fed_long piece [] ys f = ap length f
fed_long piece (here ∷ before) ys f = ap length f.1

fed_in : (s : State) (dcs : Dcs) (piece : List ℕ) (xs ys : List ReaderValue) → s ≡ Page dcs → FeedsIn s piece xs ys → Feeds piece xs ys
fed_in s dcs piece xs ys e f = subst (λ (x : State). FeedsIn x piece xs ys) e f

pub holds_octets : (s : State) (h : List Entry) (i j : ImageValue) (octets : List ℕ) → Holds s h i → TakesIn s octets i j → Holds s (record { piece = Octets octets; decision = PassesOver } ∷ h) j
holds_octets s h i j octets x t =
    record {
      run = t.run ∙ ap (λ (n : ℕ). run_after n octets) x.run ∙ sym (run_after-append 0 (octets_since h) octets);
      longest = t.longest ∙ ap (λ (n : ℕ). longest_after n i.longest octets) x.run
          ∙ ap (λ (n : ℕ). longest_after (run_after 0 (octets_since h)) n octets) x.longest
          ∙ sym (longest_after-append 0 0 (octets_since h) octets);
      page = λ dcs e.
          let p : HoldsPage dcs h i = x.page dcs e in
          let f : Feeds octets i.readers j.readers = fed_in s dcs octets i.readers j.readers e t.readers in
          record {
            openly = fed_open dcs (octets_since h) octets i.readers j.readers f p.openly;
            last = λ k. fed_ended dcs (last_image h) octets i.readers j.readers f (p.last (octets_one false h octets PassesOver k));
            apart = λ a g k.
                let few : a.place + 2 < length i.readers = p.apart a (sym t.accepted ∙ g) (octets_one false h octets PassesOver k) in
                let long : length j.readers ≡ length i.readers = fed_long octets i.readers j.readers f in
                omega arith;
          };
    }

-- THE PAGE that is confirmed stays while readers come and octets are read
means_with : (r : ReaderValue) (readers : List ReaderValue) (place : ℕ) (page : PageValue) → MeansAt readers place page → MeansAt (r ∷ readers) place page
means_with r readers place page at = record {
  under_way = r;
  later = at.under_way ∷ at.later;
  reader = at.reader;
  before = at.before;
  are = ap (λ (l : List ReaderValue). r ∷ l) at.are;
  place_is = at.place_is;
  octets = at.octets;
  read = at.read;
  means = at.means;
}

confirms_with : (r : ReaderValue) (accepted : Option Accepted) (readers : List ReaderValue) (k c : Option ConfirmedPage) → Confirms accepted readers k c → Confirms accepted (r ∷ readers) k c
confirms_with r None readers k c f = f
confirms_with r (Some a) readers k c f = (f.0, means_with r readers a.place f.0 f.1, f.2)

pub confirms_begun : (s : State) (accepted : Option Accepted) (readers : List ReaderValue) (k c : Option ConfirmedPage) → Confirms accepted readers k c → Confirms accepted (begun s readers) k c
confirms_begun Idle accepted readers k c f = f
confirms_begun Identify accepted readers k c f = f
confirms_begun Listen accepted readers k c f = f
confirms_begun (Train dcs) accepted readers k c f = f
confirms_begun (Page dcs) accepted readers k c f = confirms_with (new_reader (format_of dcs) (coding_of dcs)) accepted readers k c f
confirms_begun Again accepted readers k c f = f
confirms_begun Closing accepted readers k c f = f

tail_is : (x y : ReaderValue) (xs ys : List ReaderValue) → x ∷ xs ≡ y ∷ ys → xs ≡ ys
tail_is x y xs ys e = cc

means_fed : (piece : List ℕ) (xs ys : List ReaderValue) (place : ℕ) (page : PageValue) → Feeds piece xs ys → MeansAt xs place page → MeansAt ys place page
means_fed piece [] ys place page f at = let e : [] ≡ at.under_way ∷ (at.later ++ at.reader ∷ at.before) = at.are in cc
means_fed piece (here ∷ before) ys place page f at = record {
  under_way = f.0;
  later = at.later;
  reader = at.reader;
  before = at.before;
  are = f.1 ∙ ap (λ (l : List ReaderValue). f.0 ∷ l) (tail_is here at.under_way before (at.later ++ at.reader ∷ at.before) at.are);
  place_is = at.place_is;
  octets = at.octets;
  read = at.read;
  means = at.means;
}

confirms_page_fed : (piece : List ℕ) (accepted : Option Accepted) (xs ys : List ReaderValue) (k c : Option ConfirmedPage) → Feeds piece xs ys → Confirms accepted xs k c → Confirms accepted ys k c
confirms_page_fed piece None xs ys k c f g = g
confirms_page_fed piece (Some a) xs ys k c f g = (g.0, means_fed piece xs ys a.place g.0 f g.1, g.2)

confirms_same : (accepted : Option Accepted) (xs ys : List ReaderValue) (k c : Option ConfirmedPage) → ys ≡ xs → Confirms accepted xs k c → Confirms accepted ys k c
confirms_same accepted xs ys k c e f = subst (λ (l : List ReaderValue). Confirms accepted l k c) (sym e) f

pub confirms_fed : (s : State) (piece : List ℕ) (accepted : Option Accepted) (xs ys : List ReaderValue) (k c : Option ConfirmedPage) → FeedsIn s piece xs ys → Confirms accepted xs k c → Confirms accepted ys k c
confirms_fed Idle piece accepted xs ys k c f g = confirms_same accepted xs ys k c f g
confirms_fed Identify piece accepted xs ys k c f g = confirms_same accepted xs ys k c f g
confirms_fed Listen piece accepted xs ys k c f g = confirms_same accepted xs ys k c f g
confirms_fed (Train dcs) piece accepted xs ys k c f g = confirms_same accepted xs ys k c f g
confirms_fed (Page dcs) piece accepted xs ys k c f g = confirms_page_fed piece accepted xs ys k c f g
confirms_fed Again piece accepted xs ys k c f g = confirms_same accepted xs ys k c f g
confirms_fed Closing piece accepted xs ys k c f g = confirms_same accepted xs ys k c f g

-- none is accepted where none is confirmed
pub confirms_none : (accepted : Option Accepted) (readers : List ReaderValue) (k : Option ConfirmedPage) → Confirms accepted readers k None → (accepted ≡ None) × (k ≡ None)
confirms_none None readers k f = (refl, sym f)
confirms_none (Some a) readers k f = let e : None ≡ Some (record { page = f.0; closes = a.closes }) = f.2 in cc

-- AT REST
pub holds_none : (s : State) → ((dcs : Dcs) → s ≡ Page dcs → ⊥) → Holds s [] (record { readers = []; accepted = None; run = 0; longest = 0 })
holds_none s n = record { run = refl; longest = refl; page = λ dcs e. absurd (n dcs e) }

pub holds_on : (s t : State) (h k : List Entry) (i : ImageValue) → ((dcs : Dcs) → t ≡ Page dcs → s ≡ Page dcs) → k ≡ h → Holds s h i → Holds t k i
holds_on s t h k i f e x =
    subst (λ (y : List Entry). Holds t y i) (sym e) (record { run = x.run; longest = x.longest; page = λ dcs g. x.page dcs (f dcs g) })

-- ZERO OCTETS in a row, as they are counted
zeros-few : (xs : List ℕ) → zeros xs ≤ longest_zeros xs
zeros-few [] = omega arith
zeros-few (x ∷ xs) = omega arith

counted_zeros : (run longest : ℕ) (xs : List ℕ) → run ≤ longest → longest ≤ 65535 → longest_after run longest xs ≡ max longest (min 65535 (max (run + zeros xs) (longest_zeros xs)))
counted_zeros run longest [] h k = omega arith
counted_zeros run longest (zero ∷ xs) h k =
    let r : ℕ = min (run + 1) 65535 in
    let more : longest_after r (max longest r) xs ≡ max (max longest r) (min 65535 (max (r + zeros xs) (longest_zeros xs))) = counted_zeros r (max longest r) xs (omega arith) (omega arith) in
    let few : zeros xs ≤ longest_zeros xs = zeros-few xs in
    more ∙ omega (arith, few)
counted_zeros run longest (suc x ∷ xs) h k =
    let more : longest_after 0 (max longest 0) xs ≡ max (max longest 0) (min 65535 (max (0 + zeros xs) (longest_zeros xs))) = counted_zeros 0 (max longest 0) xs (omega arith) (omega arith) in
    let few : zeros xs ≤ longest_zeros xs = zeros-few xs in
    more ∙ omega (arith, few)

pub longest_is : (xs : List ℕ) → longest_after 0 0 xs ≡ min 65535 (longest_zeros xs)
longest_is xs = let few : zeros xs ≤ longest_zeros xs = zeros-few xs in counted_zeros 0 0 xs (omega arith) (omega arith) ∙ omega (arith, few)

le_so : (m n : ℕ) → nat_le m n ≡ true → m ≤ n
le_so m n h = grind (arith)

lt_so : (m n : ℕ) → nat_le m n ≡ false → n < m
lt_so m n h = grind (arith)

-- what is wanted is less than what is counted at most
pub enough : (w z : ℕ) → w ≤ 65535 → nat_le w (min 65535 z) ≡ nat_le w z
enough w z h = by (nat_le w (min 65535 z)) (nat_le w z) refl refl
  where
    by : (a b : Bool) → nat_le w (min 65535 z) ≡ a → nat_le w z ≡ b → a ≡ b
    by true true p q = refl
    by false false p q = refl
    by true false p q = let x : w ≤ min 65535 z = le_so w (min 65535 z) p in let y : z < w = lt_so w z q in absurd (omega arith)
    by false true p q = let x : min 65535 z < w = lt_so w (min 65535 z) p in let y : w ≤ z = le_so w z q in absurd (omega arith)
