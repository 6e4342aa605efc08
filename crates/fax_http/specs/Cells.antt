-- The cells of a page's tables (this project's profile).
use Rattle.std.specs.Prelude.{ℕ, ◌++◌, List, [], codes, decimal, option_map, Option, None, Some}
use Rattle.fax_http.specs.declared.view.CallView.{CallView}
use Rattle.fax_http.specs.declared.view.CalledView.{CalledView}
use Rattle.fax_http.specs.declared.view.CalledView.TheVariants.{Asks, Idle, Sends}
use Rattle.fax_http.specs.Texts.{text_shown}

-- the head of a row
abbrev pub name_cell : List ℕ → List ℕ
name_cell name = codes "<th scope=\"row\">" ++ (text_shown name ++ codes "</th>")

abbrev pub text_cell : List ℕ → List ℕ
text_cell text = codes "<td>" ++ (text_shown text ++ codes "</td>")

abbrev pub number_cell : ℕ → List ℕ
number_cell number = codes "<td class=\"number\">" ++ (decimal number ++ codes "</td>")

abbrev pub tag_shown : Option (List ℕ) → List ℕ
tag_shown None = []
tag_shown (Some tag) = codes ", " ++ text_shown tag

-- a call: its number, and its tag where it has one
abbrev pub call_shown : CallView → List ℕ
call_shown view =
    codes "call " ++ (decimal view.call ++ tag_shown (option_map (λ tag. tag.now) view.tag))

-- what is done with a call
abbrev pub shown_cell : List ℕ → CallView → List ℕ
shown_cell what call = codes "<td>" ++ (what ++ (call_shown call ++ codes "</td>"))

-- what is on on a calling leg
abbrev pub calling_cell : Option CallView → List ℕ
calling_cell None = codes "<td>idle</td>"
calling_cell (Some call) = shown_cell (codes "receives ") call

-- what is on on a called leg
abbrev pub called_cell : CalledView → List ℕ
called_cell Idle = codes "<td>idle</td>"
called_cell (Asks call) = shown_cell (codes "asks for the call of the job of ") call
called_cell (Sends call) = shown_cell (codes "sends the pages of ") call
