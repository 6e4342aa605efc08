-- PLACES: where a page stands that is handed out. (This project's profile.)
use Rattle.std.specs.Prelude.{◌≡◌, ℕ, ◌+◌, ◌-◌, ◌^◌, min, List, [], ◌∷◌, ◌++◌, Option, None, Some, codes, decimal, option_map, unwrap_or}
use Rattle.fax_pagestore.specs.Pages.{PageValue}
use Rattle.fax_jobs.specs.Books.{Book}
use Rattle.fax_jobs.specs.Newest.{newest_page}
use Rattle.fax_gateway.specs.declared.given.Kept.{Kept}
use Rattle.fax_gateway.specs.declared.leg.Leg.TheVariants as legs
use Rattle.fax_explain.specs.declared.called.CalledLeg.{CalledLeg}
use Rattle.fax_explain.specs.declared.calling.CallingLeg.{CallingLeg}
use Rattle.fax_explain.specs.declared.store.Place.{Place}
use Rattle.fax_explain.specs.declared.stage.FoundPage.{FoundPage}
use Rattle.fax_descriptions.specs.Words.{format_text}

-- the number after this one; the greatest stays
abbrev pub next_number : ℕ → ℕ
next_number n = min (n + 1) (2 ^ 32 - 1)

-- the number of the page that a tick confirms, where it confirms one, after this one
abbrev pub next_if : Option Kept → ℕ → ℕ
next_if None n = n
next_if (Some kept) n = next_number n

-- a page that is sent: in the call that it came in, after those that were sent before and those that were delivered
abbrev pub sent_place : CalledLeg → Place
sent_place leg = record {
  leg = legs.Called;
  call = unwrap_or leg.call 0;
  page = next_number (min (leg.before + leg.delivered) (2 ^ 32 - 1));
}

-- a page that is confirmed: in its call, after those that were confirmed
abbrev pub confirmed_place : Kept → CallingLeg → Place
confirmed_place kept leg =
    record { leg = legs.Calling; call = kept.call; page = next_number leg.pages }

-- a page, where there is one, at its place
abbrev pub found_at : Place → Option PageValue → Option FoundPage
found_at place = option_map (λ (page : PageValue). record { place = place; page = page })

-- the page that a tick confirms, where it confirms one
abbrev pub page_of : Option Kept → Option PageValue → CallingLeg → Option FoundPage
page_of None page leg = None
page_of (Some kept) page leg = found_at (confirmed_place kept leg) page

-- which is the newest of the gateway's book, where it confirms one (specs/Newest of fax_gateway)
abbrev pub page_if : Option Kept → Book → Option PageValue
page_if None book = None
page_if (Some kept) book = newest_page book

-- a page that was found, where one was, comes after those that were
abbrev pub Keeps : Option FoundPage → (old new : List FoundPage) → Type 0
Keeps None old new = new ≡ old
Keeps (Some found) old new = new ≡ old ++ found ∷ []

-- others may come after those that were
abbrev pub Grows : (old new : List FoundPage) → Type 0
Grows old new = (more : List FoundPage) × (new ≡ old ++ more)

-- a picture of this page comes after those that were, in the place of one that was confirmed
abbrev pub HasPicture : PageValue → (old new : List FoundPage) → Type 0
HasPicture page old new = (place : Place) × (more : List FoundPage)
    × (place.leg ≡ legs.Calling) × (new ≡ old ++ record { place = place; page = page } ∷ more)

-- what is told of it after its MCF
abbrev pub confirmed_text : Kept → (page : ℕ) → List ℕ
confirmed_text kept page =
    codes " page " ++ (decimal page ++ (codes " of call " ++ (decimal kept.call
    ++ (codes ": " ++ (format_text kept.format ++ (codes ", rows: " ++ decimal kept.rows))))))
