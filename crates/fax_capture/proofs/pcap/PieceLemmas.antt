-- What is read at the front of octets is read there too once more of them have come.
use Rattle.std.proofs.Common.{◌≡◌, ◌≢◌, ◌⊎◌, inl, inr, ℕ, ◌-◌, ◌<◌, ◌≤◌, ◌==◌, ◌&&◌, ◌||◌, not, nat_lt, Bool, true, false, List, [], ◌∷◌, ◌++◌, take, drop, length, Option, None, Some, Result, Ok, Err, refl, sym, ◌∙◌, ap, subst, arith, length-append, if◌then◌else◌, ◌%◌}
use Rattle.std.proofs.lemmas.Bool.{cases_lt}
use Rattle.std.proofs.lemmas.List.{take-append-le, drop-append-le}
use Rattle.fax_capture.specs.declared.pcap.fields.ByteOrder.{ByteOrder}
use Rattle.fax_capture.specs.declared.pcap.fields.ByteOrder.TheVariants.{Big, Little}
use Rattle.fax_capture.specs.declared.pcap.fault.CaptureFault.{CaptureFault}
use Rattle.fax_capture.specs.declared.pcap.fault.CaptureFault.TheVariants.{NoCapture, Cut, Damaged}
use Rattle.fax_capture.specs.declared.pcap.pcap.PcapFile.{PcapFile}
use Rattle.fax_capture.specs.declared.pcap.capture.FileKind.{FileKind}
use Rattle.fax_capture.specs.declared.pcap.capture.FileKind.TheVariants.{Unopened, Pcap, Pcapng}
use Rattle.fax_capture.specs.pcap.Fields.{◌>>=◌, front_of, number_16, number_32}
use Rattle.fax_capture.specs.pcap.Frames.{link_of}
use Rattle.fax_capture.specs.pcap.Captures.{BlockValue, FailsAs, Follow, HeadValue, ReadsAs, ReadValue, RecordValue, TimedPacket, block_at, block_of, block_record, head_record, most_of_record, packet_record, pcap_of, pcap_packet_at, pcap_packet_of, pcap_record, pcapng_record, read_at, read_of, read_of_record, record_at, record_of_kind, section_at, section_head, section_order_at, section_record, unit_of_magic}

-- ---- readers that go on alike

-- what was read, with more octets after it
abbrev pub with_more : {X : Type 0} → List ℕ → Result (X × List ℕ) CaptureFault → Result (X × List ℕ) CaptureFault
with_more more (Ok parts) = Ok (parts.0, parts.1 ++ more)
with_more more (Err fault) = Err fault

-- What is read, or refused for another reason than that octets lack, is so where more of them follow.
abbrev Lasts : {X : Type 0} → (List ℕ → Result (X × List ℕ) CaptureFault) → Type 0
Lasts read = (octets more : List ℕ) → (read octets ≢ Err Cut) → read (octets ++ more) ≡ with_more more (read octets)

-- the same of what is looked at, and not passed
abbrev LastsAhead : {O : Type 0} → (List ℕ → Result O CaptureFault) → Type 0
LastsAhead look = (octets more : List ℕ) → (look octets ≢ Err Cut) → look (octets ++ more) ≡ look octets

front_is : (fault : CaptureFault) (n : ℕ) (octets : List ℕ) → n ≤ length octets → front_of fault n octets ≡ Ok (take n octets, drop n octets)
unfolding front_of
front_is fault n octets h = grind (arith, h)

front_lacks : (fault : CaptureFault) (n : ℕ) (octets : List ℕ) → length octets < n → front_of fault n octets ≡ Err fault
unfolding front_of
front_lacks fault n octets h = grind (arith, h)

front_by : (n : ℕ) (octets more : List ℕ) → (length octets < n) ⊎ (n ≤ length octets) → (front_of Cut n octets ≢ Err Cut)
    → front_of Cut n (octets ++ more) ≡ with_more more (front_of Cut n octets)
front_by n octets more (inr long) h =
    let longer : n ≤ length (octets ++ more) = omega (arith, length-append octets more, long) in
    front_is Cut n (octets ++ more) longer
    ∙ ap (λ (t : List ℕ). Ok (t, drop n (octets ++ more))) (take-append-le n octets more long)
    ∙ ap (λ (t : List ℕ). Ok (take n octets, t)) (drop-append-le n octets more long)
    ∙ sym (ap (with_more more) (front_is Cut n octets long))
front_by n octets more (inl short) h = absurd (h (front_lacks Cut n octets short))

front_lasts : (n : ℕ) → Lasts (front_of Cut n)
front_lasts n octets more h = front_by n octets more (cases_lt (length octets) n) h

fault_lasts : {X : Type 0} → (fault : CaptureFault) → Lasts {X = X} (λ octets. Err fault)
fault_lasts fault octets more h = refl

done_lasts : {X : Type 0} → (x : X) → Lasts (λ octets. Ok (x, octets))
done_lasts x octets more h = refl

if_lasts : {X : Type 0} → (b : Bool) (p q : List ℕ → Result (X × List ℕ) CaptureFault) → Lasts p → Lasts q → Lasts (λ octets. if b then p octets else q octets)
if_lasts true p q l m = l
if_lasts false p q l m = m

-- one after the other
abbrev join : {X Y : Type 0} → (X → List ℕ → Result (Y × List ℕ) CaptureFault) → Result (X × List ℕ) CaptureFault → Result (Y × List ℕ) CaptureFault
join q r = r >>= λ parts. q parts.0 parts.1

then_by : {X Y : Type 0} → (q : X → List ℕ → Result (Y × List ℕ) CaptureFault) (more : List ℕ) (r longer : Result (X × List ℕ) CaptureFault)
    → longer ≡ with_more more r → ((x : X) → Lasts (q x)) → (join q r ≢ Err Cut) → join q longer ≡ with_more more (join q r)
then_by q more (Ok parts) longer on m h = ap (join q) on ∙ m parts.0 parts.1 more h
then_by q more (Err fault) longer on m h = ap (join q) on

not_cut : {X Y : Type 0} → (q : X → List ℕ → Result (Y × List ℕ) CaptureFault) (r : Result (X × List ℕ) CaptureFault) → (join q r ≢ Err Cut) → r ≢ Err Cut
not_cut q r h = λ cut. h (ap (join q) cut)

then_lasts : {X Y : Type 0} → (p : List ℕ → Result (X × List ℕ) CaptureFault) (q : X → List ℕ → Result (Y × List ℕ) CaptureFault)
    → Lasts p → ((x : X) → Lasts (q x)) → Lasts (λ octets. join q (p octets))
then_lasts p q l m octets more h = then_by q more (p octets) (p (octets ++ more)) (l octets more (not_cut q (p octets) h)) m h

-- one after something that is looked at
abbrev look_by : {O Y : Type 0} → (O → List ℕ → Result (Y × List ℕ) CaptureFault) → List ℕ → Result O CaptureFault → Result (Y × List ℕ) CaptureFault
look_by q octets r = r >>= λ seen. q seen octets

seen_by : {O Y : Type 0} → (q : O → List ℕ → Result (Y × List ℕ) CaptureFault) (octets more : List ℕ) (r : Result O CaptureFault)
    → ((seen : O) → Lasts (q seen)) → (look_by q octets r ≢ Err Cut)
    → look_by q (octets ++ more) r ≡ with_more more (look_by q octets r)
seen_by q octets more (Ok seen) m h = m seen octets more h
seen_by q octets more (Err fault) m h = refl

look_lasts : {O Y : Type 0} → (look : List ℕ → Result O CaptureFault) (q : O → List ℕ → Result (Y × List ℕ) CaptureFault)
    → LastsAhead look → ((seen : O) → Lasts (q seen)) → Lasts (λ octets. look_by q octets (look octets))
look_lasts look q l m octets more h =
    let seen : look octets ≢ Err Cut = λ cut. h (ap (look_by q octets) cut) in
    ap (look_by q (octets ++ more)) (l octets more seen) ∙ seen_by q octets more (look octets) m h

-- what is told by the octets in front
abbrev told_in_front : {O : Type 0} → (List ℕ → Result O CaptureFault) → Result (List ℕ × List ℕ) CaptureFault → Result O CaptureFault
told_in_front f r = r >>= λ parts. f parts.0

front_told : {O : Type 0} → (f : List ℕ → Result O CaptureFault) (more : List ℕ) (r : Result (List ℕ × List ℕ) CaptureFault)
    → told_in_front f (with_more more r) ≡ told_in_front f r
front_told f more (Ok parts) = refl
front_told f more (Err fault) = refl

ahead_lasts : {O : Type 0} → (n : ℕ) (f : List ℕ → Result O CaptureFault) → LastsAhead (λ octets. told_in_front f (front_of Cut n octets))
ahead_lasts n f octets more h =
    let seen : front_of Cut n octets ≢ Err Cut = λ cut. h (ap (told_in_front f) cut) in
    ap (told_in_front f) (front_lasts n octets more seen) ∙ front_told f more (front_of Cut n octets)

-- ---- the records

block_of_lasts : (order : ByteOrder) (kind count : ℕ) → Lasts (block_of order kind count)
unfolding block_of
block_of_lasts order kind count =
    if_lasts (nat_lt count 12 || (not (count % 4 == 0) || nat_lt most_of_record count)) (λ octets. Err Damaged)
    (λ octets. front_of Cut (count - 12) octets >>= λ body. front_of Cut 4 body.1 >>= λ last. if number_32 order last.0 0 == count then Ok (record { kind = kind; body = body.0 }, last.1) else Err Damaged)
    (fault_lasts Damaged)
    (then_lasts (front_of Cut (count - 12)) (λ body rest. front_of Cut 4 rest >>= λ last. if number_32 order last.0 0 == count then Ok (record { kind = kind; body = body }, last.1) else Err Damaged)
    (front_lasts (count - 12))
    (λ body. then_lasts (front_of Cut 4) (λ last after. if number_32 order last 0 == count then Ok (record { kind = kind; body = body }, after) else Err Damaged)
    (front_lasts 4)
    (λ last. if_lasts (number_32 order last 0 == count) (λ after. Ok (record { kind = kind; body = body }, after)) (λ after. Err Damaged) (done_lasts (record { kind = kind; body = body })) (fault_lasts Damaged))))

block_at_lasts : (order : ByteOrder) → Lasts (block_at order)
unfolding block_at
block_at_lasts order =
    then_lasts (front_of Cut 8) (λ header rest. block_of order (number_32 order header 0) (number_32 order header 4) rest) (front_lasts 8)
    (λ header. block_of_lasts order (number_32 order header 0) (number_32 order header 4))

section_order_lasts : LastsAhead section_order_at
unfolding section_order_at
section_order_lasts =
    ahead_lasts 12 (λ header. if number_32 Big header 8 == 439041101 then Ok Big else if number_32 Little header 8 == 439041101 then Ok Little else Err Damaged)

-- a result that does not rest on the octets
fixed_lasts : {P Y : Type 0} → (r : Result P CaptureFault) (q : P → List ℕ → Result (Y × List ℕ) CaptureFault) → ((x : P) → Lasts (q x)) → Lasts (λ octets. r >>= λ x. q x octets)
fixed_lasts (Ok x) q m = m x
fixed_lasts (Err fault) q m = fault_lasts fault

section_at_lasts : Lasts section_at
unfolding section_at
section_at_lasts =
    look_lasts section_order_at (λ order octets. block_at order octets >>= λ block. front_of Damaged 16 block.0.body >>= λ parts. if number_16 order parts.0 4 == 1 then Ok (order, block.1) else Err Damaged)
    section_order_lasts
    (λ order. then_lasts (block_at order) (λ block after. front_of Damaged 16 block.body >>= λ parts. if number_16 order parts.0 4 == 1 then Ok (order, after) else Err Damaged)
    (block_at_lasts order)
    (λ block. fixed_lasts (front_of Damaged 16 block.body) (λ parts after. if number_16 order parts.0 4 == 1 then Ok (order, after) else Err Damaged)
    (λ parts. if_lasts (number_16 order parts.0 4 == 1) (λ after. Ok (order, after)) (λ after. Err Damaged) (done_lasts order) (fault_lasts Damaged))))

section_record_lasts : Lasts section_record
unfolding section_record
section_record_lasts =
    then_lasts section_at (λ order after. Ok (record { packet = None; head = section_head order }, after)) section_at_lasts
    (λ order. done_lasts (record { packet = None; head = section_head order }))

pcap_of_lasts : (order : ByteOrder) (unit : ℕ) → Lasts (pcap_of order unit)
unfolding pcap_of
pcap_of_lasts order unit =
    let head : List ℕ → HeadValue = λ header. record { kind = Pcap (record { order = order; link = link_of (number_32 order header 20 % 65536); unit = unit }); order = order; interfaces = [] } in
    then_lasts (front_of Cut 24) (λ header rest. if (number_16 order header 4 == 2) && (number_16 order header 6 == 4) then Ok (head header, rest) else Err NoCapture)
    (front_lasts 24)
    (λ header. if_lasts ((number_16 order header 4 == 2) && (number_16 order header 6 == 4)) (λ rest. Ok (head header, rest)) (λ rest. Err NoCapture) (done_lasts (head header)) (fault_lasts NoCapture))

pcap_record_lasts : (order : ByteOrder) (unit : ℕ) → Lasts (pcap_record order unit)
unfolding pcap_record
pcap_record_lasts order unit =
    then_lasts (pcap_of order unit) (λ file after. Ok (record { packet = None; head = file }, after)) (pcap_of_lasts order unit)
    (λ file. done_lasts (record { packet = None; head = file }))

-- a magic number that was found, or not
abbrev magic_in : ByteOrder → (List ℕ → Result (RecordValue × List ℕ) CaptureFault) → Option ℕ → List ℕ → Result (RecordValue × List ℕ) CaptureFault
magic_in order otherwise found octets = elim found [ Some unit ↦ pcap_record order unit octets | None ↦ otherwise octets ]

magic_lasts : (order : ByteOrder) (otherwise : List ℕ → Result (RecordValue × List ℕ) CaptureFault) (found : Option ℕ) → Lasts otherwise → Lasts (magic_in order otherwise found)
magic_lasts order otherwise (Some unit) l = pcap_record_lasts order unit
magic_lasts order otherwise None l = l

-- what four octets at the front begin
abbrev begun_by : List ℕ → List ℕ → Result (RecordValue × List ℕ) CaptureFault
begun_by magic octets =
    if number_32 Big magic 0 == 168627466 then section_record octets
    else magic_in Big (magic_in Little (λ left. Err NoCapture) (unit_of_magic (number_32 Little magic 0))) (unit_of_magic (number_32 Big magic 0)) octets

-- the octets in front decide what is read of all
abbrev in_front : {Y : Type 0} → (List ℕ → List ℕ → Result (Y × List ℕ) CaptureFault) → List ℕ → Result (List ℕ × List ℕ) CaptureFault → Result (Y × List ℕ) CaptureFault
in_front q octets r = r >>= λ parts. q parts.0 octets

in_front_by : {Y : Type 0} → (q : List ℕ → List ℕ → Result (Y × List ℕ) CaptureFault) (octets more : List ℕ) (r : Result (List ℕ × List ℕ) CaptureFault)
    → ((front : List ℕ) → Lasts (q front)) → (in_front q octets r ≢ Err Cut)
    → in_front q (octets ++ more) (with_more more r) ≡ with_more more (in_front q octets r)
in_front_by q octets more (Ok parts) m h = m parts.0 octets more h
in_front_by q octets more (Err fault) m h = refl

in_front_lasts : {Y : Type 0} → (n : ℕ) (q : List ℕ → List ℕ → Result (Y × List ℕ) CaptureFault) → ((front : List ℕ) → Lasts (q front))
    → Lasts (λ octets. in_front q octets (front_of Cut n octets))
in_front_lasts n q m octets more h =
    let seen : front_of Cut n octets ≢ Err Cut = λ cut. h (ap (in_front q octets) cut) in
    ap (in_front q (octets ++ more)) (front_lasts n octets more seen) ∙ in_front_by q octets more (front_of Cut n octets) m h

head_record_lasts : Lasts head_record
unfolding head_record
head_record_lasts =
    in_front_lasts 4 begun_by
    (λ magic. if_lasts (number_32 Big magic 0 == 168627466) section_record
    (magic_in Big (magic_in Little (λ left. Err NoCapture) (unit_of_magic (number_32 Little magic 0))) (unit_of_magic (number_32 Big magic 0)))
    section_record_lasts
    (magic_lasts Big (magic_in Little (λ left. Err NoCapture) (unit_of_magic (number_32 Little magic 0))) (unit_of_magic (number_32 Big magic 0))
    (magic_lasts Little (λ left. Err NoCapture) (unit_of_magic (number_32 Little magic 0)) (fault_lasts NoCapture))))

pcap_packet_lasts : (file : PcapFile) → Lasts (pcap_packet_at file)
unfolding pcap_packet_at
pcap_packet_lasts file =
    then_lasts (front_of Cut 16)
    (λ header rest. if nat_lt most_of_record (number_32 file.order header 8) then Err Damaged else (front_of Cut (number_32 file.order header 8) rest >>= λ packet. Ok (pcap_packet_of file header packet.0, packet.1)))
    (front_lasts 16)
    (λ header. if_lasts (nat_lt most_of_record (number_32 file.order header 8)) (λ rest. Err Damaged)
    (λ rest. front_of Cut (number_32 file.order header 8) rest >>= λ packet. Ok (pcap_packet_of file header packet.0, packet.1))
    (fault_lasts Damaged)
    (then_lasts (front_of Cut (number_32 file.order header 8)) (λ packet after. Ok (pcap_packet_of file header packet, after))
    (front_lasts (number_32 file.order header 8))
    (λ packet. done_lasts (pcap_packet_of file header packet))))

packet_record_lasts : (head : HeadValue) (file : PcapFile) → Lasts (packet_record head file)
unfolding packet_record
packet_record_lasts head file =
    then_lasts (pcap_packet_at file) (λ packet after. Ok (record { packet = Some packet; head = head }, after)) (pcap_packet_lasts file)
    (λ packet. done_lasts (record { packet = Some packet; head = head }))

-- a block of a section
abbrev block_here : HeadValue → List ℕ → Result (RecordValue × List ℕ) CaptureFault
block_here head octets = block_at head.order octets >>= λ block. block_record head block.0 >>= λ told. Ok (told, block.1)

block_here_lasts : (head : HeadValue) → Lasts (block_here head)
block_here_lasts head =
    then_lasts (block_at head.order) (λ block after. block_record head block >>= λ told. Ok (told, after)) (block_at_lasts head.order)
    (λ block. fixed_lasts (block_record head block) (λ told after. Ok (told, after)) (λ told. done_lasts told))

pcapng_record_lasts : (head : HeadValue) → Lasts (pcapng_record head)
unfolding pcapng_record
pcapng_record_lasts head =
    in_front_lasts 4 (λ kind octets. if number_32 Big kind 0 == 168627466 then section_record octets else block_here head octets)
    (λ kind. if_lasts (number_32 Big kind 0 == 168627466) section_record (block_here head) section_record_lasts (block_here_lasts head))

record_lasts : (kind : FileKind) (head : HeadValue) → Lasts (record_of_kind kind head)
unfolding record_of_kind
record_lasts Unopened head = head_record_lasts
record_lasts (Pcap file) head = packet_record_lasts head file
record_lasts Pcapng head = pcapng_record_lasts head

-- ---- what is read of them

read_lasts : (head : HeadValue) → Lasts (λ octets. read_of (record_at head octets))
unfolding read_of
read_lasts head =
    then_lasts (record_at head) (λ told after. read_of_record told >>= λ read. Ok (read, after)) (record_lasts head.kind head)
    (λ told. fixed_lasts (read_of_record told) (λ read after. Ok (read, after)) (λ read. done_lasts read))

-- the fault of a result, or this one
abbrev fault_in : {X : Type 0} → CaptureFault → Result X CaptureFault → CaptureFault
fault_in fault (Ok x) = fault
fault_in fault (Err other) = other

same_fault : {X : Type 0} → (fault other : CaptureFault) (r : Result X CaptureFault) → r ≡ Err fault → r ≡ Err other → fault ≡ other
same_fault fault other r is was = sym (ap (fault_in fault) is) ∙ ap (fault_in fault) was

-- A record that was read is read, and one that was refused is refused, with more octets after it too.
no_cut : {X : Type 0} → (x : X) (r : Result X CaptureFault) → r ≡ Ok x → r ≢ Err Cut
no_cut x r is cut = let wrong : Ok x ≡ Err Cut = sym is ∙ cut in cc

pub ReadsAs-more : (old : HeadValue) (octets : List ℕ) (found : Option TimedPacket) (head : HeadValue) (after more : List ℕ)
    → ReadsAs (record_at old octets) found head after → ReadsAs (record_at old (octets ++ more)) found head (after ++ more)
ReadsAs-more old octets found head after more is =
    read_lasts old octets more (no_cut (record { found = found; head = head }, after) (read_of (record_at old octets)) is) ∙ ap (with_more more) is

pub refused-more : (old : HeadValue) (octets more : List ℕ) (fault : CaptureFault) → fault ≢ Cut
    → read_of (record_at old octets) ≡ Err fault → read_of (record_at old (octets ++ more)) ≡ Err fault
refused-more old octets more fault other is =
    let not_cut_here : read_of (record_at old octets) ≢ Err Cut = λ cut. other (same_fault fault Cut (read_of (record_at old octets)) is cut) in
    read_lasts old octets more not_cut_here ∙ ap (with_more more) is

pub Follow-more : (old : HeadValue) (octets : List ℕ) (founds : List (Option TimedPacket)) (new : HeadValue) (after more : List ℕ)
    → Follow old octets founds new after → Follow old (octets ++ more) founds new (after ++ more)
Follow-more old octets [] new after more all = (all.0, ap (λ (l : List ℕ). l ++ more) all.1)
Follow-more old octets (found ∷ founds) new after more all =
    (all.0, all.1 ++ more, ReadsAs-more old octets found all.0 all.1 more all.2, Follow-more all.0 all.1 founds new after more all.3)

-- one record more, and the records of two runs
pub Follow-push : (old : HeadValue) (octets : List ℕ) (founds : List (Option TimedPacket)) (found : Option TimedPacket) (mid : HeadValue) (rest : List ℕ) (new : HeadValue) (after : List ℕ)
    → Follow old octets founds mid rest → ReadsAs (record_at mid rest) found new after → Follow old octets (founds ++ found ∷ []) new after
Follow-push old octets [] found mid rest new after all one =
    let here : ReadsAs (record_at old octets) found new after = subst (λ (h : HeadValue). ReadsAs (record_at h octets) found new after) all.0 (subst (λ (l : List ℕ). ReadsAs (record_at mid l) found new after) all.1 one) in
    (new, after, here, (refl, refl))
Follow-push old octets (f ∷ founds) found mid rest new after all one =
    (all.0, all.1, all.2, Follow-push all.0 all.1 founds found mid rest new after all.3 one)

pub Follow-append : (old : HeadValue) (octets : List ℕ) (founds others : List (Option TimedPacket)) (mid : HeadValue) (rest : List ℕ) (new : HeadValue) (after : List ℕ)
    → Follow old octets founds mid rest → Follow mid rest others new after → Follow old octets (founds ++ others) new after
Follow-append old octets [] others mid rest new after all more =
    subst (λ (h : HeadValue). Follow h octets others new after) all.0 (subst (λ (l : List ℕ). Follow mid l others new after) all.1 more)
Follow-append old octets (f ∷ founds) others mid rest new after all more =
    (all.0, all.1, all.2, Follow-append all.0 all.1 founds others mid rest new after all.3 more)
