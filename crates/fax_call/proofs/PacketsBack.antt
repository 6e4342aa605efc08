-- What the grammars read of the packets that the caller writes.
use Rattle.std.proofs.Common.{◌≡◌, ℕ, ◌<◌, ◌≤◌, ◌==◌, Bool, true, false, List, [], ◌∷◌, ◌++◌, ◌+◌, length, Some, None, refl, sym, ◌∙◌, ap, arith, if◌then◌else◌, unwrap_or}
use Rattle.std.proofs.lemmas.List.Elements.{All-from_recursion}
use Rattle.fax_frames.specs.declared.dcs.Dcs.{Dcs}
use Rattle.fax_frames.specs.declared.dcs.Length.TheVariants.{A4}
use Rattle.fax_frames.specs.declared.rate.Rate.{Rate}
use Rattle.fax_frames.specs.declared.rate.Rate.TheVariants.{V27At2400, V27At4800, V29At7200, V29At9600, V17At7200, V17At9600, V17At12000, V17At14400}
use Rattle.fax_frames.specs.declared.frame.Frame.TheVariants as frames
use Rattle.fax_frames.specs.Capabilities.{rate_code, width_code, length_code, time_of, time_code, IsScanTime}
use Rattle.fax_frames.specs.Rates.{kind_of}
use Rattle.fax_frames.specs.Frames.{frame_of}
use Rattle.fax_frames.specs.FieldBits.{octets_of, put_at}
use Rattle.fax_frames.specs.Written.{front, written_dcs}
use Rattle.fax_frames.proofs.ReadBack.{written_dcs_are_read}
use Rattle.fax_ifp.specs.Elements as elements
use Rattle.fax_ifp.specs.Packets.{packet_of}
use Rattle.fax_ifp.specs.WrittenPackets.{IsWritableField, frame_fields, image_fields}
use Rattle.fax_ifp.proofs.ReadBackLemmas.{indicators, messages_back}
use Rattle.fax_call.specs.Replies.{Packet, Signals, Tells, Part, written}

-- the elements of a written packet
abbrev pub elements_in : Packet → List elements.Element
elements_in packet = elements.elements_in (packet_of (written packet))

pub signal_back : (code : ℕ) → code < 16 → elements_in (Signals code) ≡ elements.Signal code ∷ []
signal_back code h = ap elements.elements_in (indicators code (omega arith))

pub frame_back : (frame : List ℕ) → 1 ≤ length frame → length frame ≤ 256 → elements_in (Tells frame) ≡ elements.Field 0 0 frame ∷ elements.Field 0 4 [] ∷ []
frame_back frame some few =
    ap elements.elements_in
    (messages_back 0 (frame_fields frame) (record {
      known = omega arith;
      few = omega arith;
      each = All-from_recursion IsWritableField (frame_fields frame) (record { what = omega arith; octets = (some, omega arith) }, (record { what = omega arith; octets = tt }, tt));
    }))

pub known_kind : (rate : Rate) → kind_of rate ≤ 8
known_kind V27At2400 = omega arith
known_kind V27At4800 = omega arith
known_kind V29At7200 = omega arith
known_kind V29At9600 = omega arith
known_kind V17At7200 = omega arith
known_kind V17At9600 = omega arith
known_kind V17At12000 = omega arith
known_kind V17At14400 = omega arith

pub part_back : (rate : Rate) (last : Bool) (octets : List ℕ) → 1 ≤ length octets → length octets ≤ 65535 →
    elements_in (Part (kind_of rate) last octets) ≡ elements.Field (kind_of rate) (if last then 7 else 6) octets ∷ []
part_back rate last octets some few =
    ap elements.elements_in
    (messages_back (kind_of rate) (image_fields last octets) (record {
      known = known_kind rate;
      few = omega arith;
      each = All-from_recursion IsWritableField (image_fields last octets) (record { what = what_is last; octets = (some, few) }, tt);
    }))
  where
    what_is : (end : Bool) → (if end then 7 else 6) ≤ 7
    what_is true = omega arith
    what_is false = omega arith

-- a DCS as it is read back
abbrev pub read_dcs : Dcs → Dcs
read_dcs dcs = record dcs { length = A4; scan_ms = time_of (time_code dcs.scan_ms) }

abbrev code_by : (a b c d e : Bool) → ℕ
code_by a b c d e = unwrap_or (if a then Some 0 else if b then Some 1 else if c then Some 2 else if d then Some 4 else if e then Some 7 else None) 0

-- what a time is read back as is written as the time is, and can be written
record IsWrittenAgain (code : ℕ) : Type 0 where
  same : time_code (time_of code) ≡ code
  is_time : IsScanTime (time_of code)

written_again : (ms : ℕ) → IsWrittenAgain (time_code ms)
written_again ms = by (20 == ms) (40 == ms) (10 == ms) (5 == ms) (0 == ms)
  where
    by : (a b c d e : Bool) → IsWrittenAgain (code_by a b c d e)
    by true b c d e = record { same = refl; is_time = (0, omega arith, refl) }
    by false true c d e = record { same = refl; is_time = (1, omega arith, refl) }
    by false false true d e = record { same = refl; is_time = (2, omega arith, refl) }
    by false false false true e = record { same = refl; is_time = (3, omega arith, refl) }
    by false false false false true = record { same = refl; is_time = (4, omega arith, refl) }
    by false false false false false = record { same = refl; is_time = (0, omega arith, refl) }

pub dcs_back : (dcs : Dcs) → frame_of (written_dcs dcs) ≡ Some (frames.Dcs (read_dcs dcs))
dcs_back dcs =
    let again : IsWrittenAgain (time_code dcs.scan_ms) = written_again dcs.scan_ms in
    let read : Dcs = record dcs { scan_ms = time_of (time_code dcs.scan_ms) } in
    let same : written_dcs read ≡ written_dcs dcs = ap octets_with again.same in
    ap frame_of (sym same) ∙ written_dcs_are_read read again.is_time
  where
    octets_with : ℕ → List ℕ
    octets_with code = front 0xC1 ++ octets_of (put_at 10 1 + put_at 14 (rate_code dcs.rate) + put_at 15 (if dcs.fine then 1 else 0) + put_at 16 (if dcs.two_d then 1 else 0) + put_at 18 (width_code dcs.width) + put_at 20 (length_code dcs.length) + put_at 23 code)
