-- Some text of a job's pages takes longest.
use Rattle.std.proofs.Common.{◌≡◌, ℕ, zero, suc, ◌+◌, ◌*◌, ◌/◌, ◌≤◌, ◌<◌, ◌==◌, nat_le, Bool, true, false, List, [], ◌∷◌, length, drop, Option, Some, None, Ok, refl, ap, arith, slice_get, if◌then◌else◌}
use Rattle.std.specs.Prelude.{unwrap_or}
use Rattle.fax_runcodes.specs.declared.format.Format.{Format}
use Rattle.fax_runcodes.specs.declared.Width.TheVariants.{W1728}
use Rattle.fax_frames.specs.declared.dis.Dis.{Dis}
use Rattle.fax_frames.specs.declared.dcs.Dcs.{Dcs}
use Rattle.fax_frames.specs.declared.dcs.Length.TheVariants.{A4}
use Rattle.fax_frames.specs.declared.rate.Rate.{Rate}
use Rattle.fax_frames.specs.declared.rate.Rate.TheVariants.{V27At2400, V27At4800, V29At7200, V29At9600, V17At7200, V17At9600, V17At12000, V17At14400}
use Rattle.fax_frames.specs.FieldBits.{look_up, code_at}
use Rattle.fax_frames.specs.Capabilities.{dis_times, scan_time}
use Rattle.fax_frames.specs.Choice.{choice}
use Rattle.fax_frames.specs.Rates.{bits_a_second}
use Rattle.fax_timers.specs.Spans as spans
use Rattle.fax_pagestore.specs.Pages.{PageValue}
use Rattle.fax_jobs.specs.Jobs.{JobValue}
use Rattle.fax_call.specs.Writings.{Writing}
use Rattle.fax_call.specs.Replies.{Text}
use Rattle.fax_call.specs.Calls.{text_if}
use Rattle.fax_call.specs.Silence.{due_time}
use Rattle.fax_call.specs.Ending.{NoTextIsLonger, TextsHaveALongest}
use Rattle.fax_call.proofs.Steps.{choice_at}

-- ---- A GREATEST VALUE over what is finite

of_bools : (f : Bool → ℕ) → (b : ℕ) × ((t : Bool) → f t ≤ b)
of_bools f = (f true + f false, by)
  where
    by : (t : Bool) → f t ≤ f true + f false
    by true = omega arith
    by false = omega arith

of_rates : (f : Rate → ℕ) → (b : ℕ) × ((r : Rate) → f r ≤ b)
of_rates f = (f V27At2400 + f V27At4800 + f V29At7200 + f V29At9600 + f V17At7200 + f V17At9600 + f V17At12000 + f V17At14400, by)
  where
    by : (r : Rate) → f r ≤ f V27At2400 + f V27At4800 + f V29At7200 + f V29At9600 + f V17At7200 + f V17At9600 + f V17At12000 + f V17At14400
    by V27At2400 = omega arith
    by V27At4800 = omega arith
    by V29At7200 = omega arith
    by V29At9600 = omega arith
    by V17At7200 = omega arith
    by V17At9600 = omega arith
    by V17At12000 = omega arith
    by V17At14400 = omega arith

le_if : (m n : ℕ) → nat_le m n ≡ true → m ≤ n
le_if m n h = grind (arith)

gt_if : (m n : ℕ) → nat_le m n ≡ false → n < m
gt_if m n h = grind (arith)

up_to : (f : ℕ → ℕ) (n : ℕ) → (b : ℕ) × ((t : ℕ) → t ≤ n → f t ≤ b)
up_to f zero = (f 0, λ t h. let e : t ≡ 0 = omega arith in let same : f t ≡ f 0 = ap f e in omega arith)
up_to f (suc n) = by (up_to f n)
  where
    by : ((b : ℕ) × ((t : ℕ) → t ≤ n → f t ≤ b)) → (b : ℕ) × ((t : ℕ) → t ≤ suc n → f t ≤ b)
    by before = (f (suc n) + before.0, λ t h. two t h (nat_le t n) refl)
      where
        two : (t : ℕ) → t ≤ suc n → (x : Bool) → nat_le t n ≡ x → f t ≤ f (suc n) + before.0
        two t h true e = let k : f t ≤ before.0 = before.1 t (le_if t n e) in omega arith
        two t h false e = let k : n < t = gt_if t n e in let q : t ≡ suc n = omega arith in let same : f t ≡ f (suc n) = ap f q in omega arith

of_pages : (f : Option PageValue → ℕ) (pages : List PageValue) → (b : ℕ) × ((n : ℕ) → f (slice_get pages n) ≤ b)
of_pages f [] = (f None, λ n. omega arith)
of_pages f (page ∷ pages) = by (of_pages f pages)
  where
    by : ((b : ℕ) × ((n : ℕ) → f (slice_get pages n) ≤ b)) → (b : ℕ) × ((n : ℕ) → f (slice_get (page ∷ pages) n) ≤ b)
    by later = (f (Some page) + later.0, two)
      where
        two : (n : ℕ) → f (slice_get (page ∷ pages) n) ≤ f (Some page) + later.0
        two zero = omega arith
        two (suc n) = let k : f (slice_get pages n) ≤ later.0 = later.1 n in omega arith

-- ---- THE TIME OF A LINE is at most 40 ms

abbrev Few : List (ℕ × (ℕ × ℕ)) → Type 0
Few [] = Unit {0}
Few (entry ∷ table) = ((entry.1.0 ≤ 40) × (entry.1.1 ≤ 40)) × Few table

abbrev IsFew : ℕ × ℕ → Type 0
IsFew times = (times.0 ≤ 40) × (times.1 ≤ 40)

look_up_few : (table : List (ℕ × (ℕ × ℕ))) (code : ℕ) → Few table → IsFew (unwrap_or (look_up table code) (0, 0))
look_up_few [] code few = (omega arith, omega arith)
look_up_few (entry ∷ table) code few = by (look_up table code) few.0 (look_up_few table code few.1) (entry.0 == code)
  where
    by : (o : Option (ℕ × ℕ)) → IsFew entry.1 → IsFew (unwrap_or o (0, 0)) → (t : Bool) → IsFew (unwrap_or (if t then Some entry.1 else o) (0, 0))
    by o h k true = h
    by o h k false = k

times_few : Few dis_times
times_few = ((omega arith, omega arith), ((omega arith, omega arith), ((omega arith, omega arith), ((omega arith, omega arith), ((omega arith, omega arith), ((omega arith, omega arith), ((omega arith, omega arith), ((omega arith, omega arith), tt))))))))

scan_few : (caps : ℕ) (fine : Bool) → scan_time caps fine ≤ 40
scan_few caps true = (look_up_few dis_times (code_at 21 23 caps) times_few).1
scan_few caps false = (look_up_few dis_times (code_at 21 23 caps) times_few).0

-- ---- THE TEXTS

text_time : Writing → (gap : ℕ) → (two_d : Bool) → Rate → (scan : ℕ) → Option PageValue → ℕ
text_time writes gap two_d rate scan page =
    (length (drop 0 (text_if writes (record { rate = rate; fine = false; two_d = two_d; width = W1728; length = A4; scan_ms = scan }) page)) / (bits_a_second rate / 200) + 1) * (gap + spans.pace)

time_is : (writes : Writing) (job : JobValue) (gap n : ℕ) (dcs : Dcs) → due_time writes job gap (Text n dcs 0) ≡ text_time writes gap dcs.two_d dcs.rate dcs.scan_ms (slice_get job.pages n)
unfolding text_time
time_is writes job gap n dcs = refl

page_most : (writes : Writing) (gap : ℕ) (page : Option PageValue) → (b : ℕ) × ((two_d : Bool) (rate : Rate) (scan : ℕ) → scan ≤ 40 → text_time writes gap two_d rate scan page ≤ b)
page_most writes gap page = (most.0, is)
  where
    of_scans : (two_d : Bool) (rate : Rate) → (b : ℕ) × ((t : ℕ) → t ≤ 40 → text_time writes gap two_d rate t page ≤ b)
    of_scans two_d rate = up_to (λ (t : ℕ). text_time writes gap two_d rate t page) 40

    of_each : (two_d : Bool) → (b : ℕ) × ((rate : Rate) → (of_scans two_d rate).0 ≤ b)
    of_each two_d = of_rates (λ (rate : Rate). (of_scans two_d rate).0)

    most : (b : ℕ) × ((two_d : Bool) → (of_each two_d).0 ≤ b)
    most = of_bools (λ (two_d : Bool). (of_each two_d).0)

    is : (two_d : Bool) (rate : Rate) (scan : ℕ) → scan ≤ 40 → text_time writes gap two_d rate scan page ≤ most.0
    is two_d rate scan h = up (text_time writes gap two_d rate scan page) (of_scans two_d rate).0 (of_each two_d).0 most.0 ((of_scans two_d rate).1 scan h) ((of_each two_d).1 rate) (most.1 two_d)
      where
        up : (w x y z : ℕ) → w ≤ x → x ≤ y → y ≤ z → w ≤ z
        up w x y z a b c = omega arith

chosen_few : (dis : Dis) (format : Format) (step : ℕ) (dcs : Dcs) → choice dis format step ≡ Ok dcs → dcs.scan_ms ≤ 40
chosen_few dis format step dcs h =
    let few : scan_time dis.caps.0 format.fine ≤ 40 = scan_few dis.caps.0 format.fine in
    let same : dcs.scan_ms ≡ scan_time dis.caps.0 format.fine = ap (λ (d : Dcs). d.scan_ms) (choice_at dis format step step dcs h).0.dcs_is in
    omega arith

pub texts_have_a_longest : TextsHaveALongest
texts_have_a_longest writes job gap = (all.0, is)
  where
    all : (b : ℕ) × ((n : ℕ) → (page_most writes gap (slice_get job.pages n)).0 ≤ b)
    all = of_pages (λ (page : Option PageValue). (page_most writes gap page).0) job.pages

    is : NoTextIsLonger writes job gap all.0
    is n dis format step dcs h =
        let time : due_time writes job gap (Text n dcs 0) ≡ text_time writes gap dcs.two_d dcs.rate dcs.scan_ms (slice_get job.pages n) = time_is writes job gap n dcs in
        let page : text_time writes gap dcs.two_d dcs.rate dcs.scan_ms (slice_get job.pages n) ≤ (page_most writes gap (slice_get job.pages n)).0 =
        (page_most writes gap (slice_get job.pages n)).1 dcs.two_d dcs.rate dcs.scan_ms (chosen_few dis format step dcs h) in
        up (due_time writes job gap (Text n dcs 0)) (text_time writes gap dcs.two_d dcs.rate dcs.scan_ms (slice_get job.pages n)) (page_most writes gap (slice_get job.pages n)).0 all.0 time page (all.1 n)
      where
        up : (w x y z : ℕ) → w ≡ x → x ≤ y → y ≤ z → w ≤ z
        up w x y z a b c = omega arith
