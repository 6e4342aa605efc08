-- A page of a job, as a call comes to it.
use Rattle.std.proofs.Common.{◌≡◌, ℕ, zero, suc, ◌+◌, ◌-◌, ◌<◌, ◌≤◌, nat_eq, Bool, true, false, List, [], ◌∷◌, length, drop, Option, Some, None, refl, sym, ◌∙◌, ap, arith, if◌then◌else◌, slice_get, length-drop, eq-eqb}
use Rattle.std.proofs.lemmas.List.{drop-drop}
use Rattle.std.proofs.lemmas.List.Elements.{All-head, All-tail}
use Rattle.std.specs.Prelude.{All}
use Rattle.fax_runcodes.specs.declared.format.Format.{Format}
use Rattle.fax_frames.specs.declared.writing.Plain.{Plain}
use Rattle.fax_frames.specs.declared.writing.Plain.TheVariants as plain
use Rattle.fax_frames.specs.Written.{written_plain}
use Rattle.fax_pagestore.specs.Pages.{PageValue, IsPage}
use Rattle.fax_jobs.specs.Jobs.{JobValue}
use Rattle.fax_answer.specs.declared.command.Command.{Command}
use Rattle.fax_answer.specs.declared.command.Command.TheVariants as commands
use Rattle.fax_answer.specs.declared.command.Order.TheVariants as orders
use Rattle.fax_answer.specs.Orders.{order_of}
use Rattle.fax_answer.specs.Replies.{ConfirmedPage, is_last}
use Rattle.fax_call.specs.Calls.{formats_of}
use Rattle.fax_call.specs.Replies.{command_after, command_by, is_last_page, same_format, turn_after, turn_if}
use Rattle.fax_call.proofs.Due.{format_at}
use Rattle.fax_laws.specs.delivery.Jobs.{all_kept}

-- the command after a page of this format, where these are left
abbrev pub command_for : Format → List PageValue → Command
command_for format [] = commands.Eop
command_for format (next ∷ rest) = if same_format format next.format then commands.Mps else commands.Eom

abbrev pub plain_of : Command → Plain
plain_of commands.Eom = plain.Eom
plain_of commands.Mps = plain.Mps
plain_of commands.Eop = plain.Eop

abbrev pub frame_for : Command → List ℕ
frame_for c = written_plain (plain_of c) true

pub command_judges : (c : Command) → order_of (frame_for c) ≡ orders.Judge c
unfolding order_of
command_judges commands.Eom = refl
command_judges commands.Mps = refl
command_judges commands.Eop = refl

pub some_octet : (c : Command) → 1 ≤ length (frame_for c)
some_octet commands.Eom = omega arith
some_octet commands.Mps = omega arith
some_octet commands.Eop = omega arith

pub few_octets : (c : Command) → length (frame_for c) ≤ 256
few_octets commands.Eom = omega arith
few_octets commands.Mps = omega arith
few_octets commands.Eop = omega arith

-- THE PAGE THAT IS DUE: its number, itself, those after it, its format, the command that follows it, and what was confirmed before
pub record Place : Type 0 where
  pub at : ℕ
  pub page : PageValue
  pub rest : List PageValue
  pub format : Format
  pub command : Command
  pub kept : List ConfirmedPage

pub record IsPlace (job : JobValue) (k : Place) : Type 0 where
  pub left : drop k.at job.pages ≡ k.page ∷ k.rest
  pub is_page : IsPage k.page
  pub are_pages : All IsPage k.rest
  pub same : k.page.format ≡ k.format
  pub asks : k.command ≡ command_for k.page.format k.rest
  pub kept_so : all_kept (k.page ∷ k.rest) k.kept ≡ all_kept job.pages []

-- with it confirmed
abbrev pub kept_on : Place → List ConfirmedPage
kept_on k = record { page = k.page; closes = is_last k.command } ∷ k.kept

-- ---- where it stands
at_front : {A : Type 0} (xs : List A) (n : ℕ) (x : A) (rest : List A) → drop n xs ≡ x ∷ rest → slice_get xs n ≡ Some x
at_front [] zero x rest h = cc
at_front [] (suc n) x rest h = cc
at_front (y ∷ ys) zero x rest h = let e : y ≡ x = cc in ap (λ z. Some z) e
at_front (y ∷ ys) (suc n) x rest h = at_front ys n x rest h

pub is_at : (job : JobValue) (k : Place) → IsPlace job k → slice_get job.pages k.at ≡ Some k.page
is_at job k i = at_front job.pages k.at k.page k.rest i.left

left_after : (pages : List PageValue) (n : ℕ) (page : PageValue) (rest : List PageValue) → drop n pages ≡ page ∷ rest → drop (n + 1) pages ≡ rest
left_after pages n page rest h = sym (drop-drop 1 n pages) ∙ ap (λ (ps : List PageValue). drop 1 ps) h

pub many_left : (pages : List PageValue) (n : ℕ) (page : PageValue) (rest : List PageValue) → drop n pages ≡ page ∷ rest → n + 1 + length rest ≡ length pages
many_left pages n page rest h =
    let a : length (drop n pages) ≡ length pages - n = length-drop n pages in
    let b : length (drop n pages) ≡ suc (length rest) = ap (λ (ps : List PageValue). length ps) h in
    omega (arith, a, b)

-- ---- what follows it
ne_false : (m n : ℕ) → m < n → nat_eq m n ≡ false
ne_false m n h = grind (arith)

pub last_is : (pages : List PageValue) (n : ℕ) (page : PageValue) → drop n pages ≡ page ∷ [] → is_last_page (length pages) n ≡ true
last_is pages n page h = let m : n + 1 + 0 ≡ length pages = many_left pages n page [] h in let e : n + 1 ≡ length pages = omega (arith, m) in eq-eqb (n + 1) (length pages) e

pub none_last : (pages : List PageValue) (n : ℕ) (page next : PageValue) (rest : List PageValue) → drop n pages ≡ page ∷ next ∷ rest → is_last_page (length pages) n ≡ false
none_last pages n page next rest h =
    let m : n + 1 + suc (length rest) ≡ length pages = many_left pages n page (next ∷ rest) h in
    ne_false (n + 1) (length pages) (omega (arith, m))

pub turn_is : (job : JobValue) (n : ℕ) (page next : PageValue) (rest : List PageValue) → drop n job.pages ≡ page ∷ next ∷ rest
    → turn_after (formats_of job) n ≡ (if same_format page.format next.format then None else Some next.format)
turn_is job n page next rest h =
    ap (λ (o : Option Format). turn_if o (slice_get (formats_of job) (n + 1))) (format_at job.pages n page (at_front job.pages n page (next ∷ rest) h))
    ∙ ap (λ (o : Option Format). turn_if (Some page.format) o) (format_at job.pages (n + 1) next (at_front job.pages (n + 1) next rest (left_after job.pages n page (next ∷ rest) h)))

pub command_is : (job : JobValue) (k : Place) → IsPlace job k → command_after (formats_of job) (length job.pages) k.at ≡ plain_of k.command
command_is job k i = by k.rest i.left ∙ ap plain_of (sym i.asks)
  where
    either : (f : Format) (b : Bool) → command_by false (if◌then◌else◌ {A = Option Format} b None (Some f)) ≡ plain_of (if◌then◌else◌ {A = Command} b commands.Mps commands.Eom)
    either f true = refl
    either f false = refl

    by : (rest : List PageValue) → drop k.at job.pages ≡ k.page ∷ rest → command_after (formats_of job) (length job.pages) k.at ≡ plain_of (command_for k.page.format rest)
    by [] l = ap (λ (b : Bool). command_by b (turn_after (formats_of job) k.at)) (last_is job.pages k.at k.page l)
    by (next ∷ rest) l =
        ap (λ (b : Bool). command_by b (turn_after (formats_of job) k.at)) (none_last job.pages k.at k.page next rest l)
        ∙ ap (λ (t : Option Format). command_by false t) (turn_is job k.at k.page next rest l)
        ∙ either next.format (same_format k.page.format next.format)

-- ---- the first one, and the next one
abbrev pub first_place : JobValue → PageValue → List PageValue → Place
first_place job page rest = record { at = 0; page = page; rest = rest; format = job.format; command = command_for page.format rest; kept = [] }

abbrev pub next_place : Place → PageValue → List PageValue → Format → Place
next_place k next rest format =
    record { at = k.at + 1; page = next; rest = rest; format = format; command = command_for next.format rest; kept = record { page = k.page; closes = false } ∷ k.kept }

pub is_next : (job : JobValue) (at : ℕ) (page next : PageValue) (rest : List PageValue) (format other : Format) (c : Command) (kept : List ConfirmedPage)
    → IsPlace job (record { at = at; page = page; rest = next ∷ rest; format = format; command = c; kept = kept }) → next.format ≡ other
    → IsPlace job (next_place (record { at = at; page = page; rest = next ∷ rest; format = format; command = c; kept = kept }) next rest other)
is_next job at page next rest format other c kept i is =
    record {
      left = left_after job.pages at page (next ∷ rest) i.left;
      is_page = All-head IsPage next rest i.are_pages;
      are_pages = All-tail IsPage next rest i.are_pages;
      same = is;
      asks = refl;
      kept_so = i.kept_so;
    }
