-- What the page for an operator tells of calls of which pages could not be delivered, in HTML (this project's profile).
use Rattle.std.specs.Prelude.{ℕ, ◌++◌, nat_eq, if◌then◌else◌, List, [], codes, decimal, length}
use Rattle.std.specs.List.{flat_map}
use Rattle.fax_http.specs.declared.undelivered.TheConstants.{DISCARD, RETRY, UNDELIVERED, UNDELIVERED_END, WORD_END}
use Rattle.fax_http.specs.declared.view.UndeliveredView.{UndeliveredView}
use Rattle.fax_http.specs.Cells.{call_shown}
use Rattle.fax_http.specs.PicturePaths.{picture_path}
use Rattle.fax_http.specs.Texts.{text_shown}

-- the picture of its first page, at the path of its line, life and number
unfoldable pub picture_part : UndeliveredView → List ℕ
picture_part call =
    codes "<img src=\"" ++ (text_shown (picture_path call.line.now call.life call.call.call)
    ++ (codes "\" alt=\"The first page of "
    ++ (call_shown call.call ++ codes "\" loading=\"lazy\">\n")))

unfoldable pub heading_part : UndeliveredView → List ℕ
heading_part call = codes "<h3>"
    ++ (text_shown call.line.now ++ (codes ": " ++ (call_shown call.call ++ codes "</h3>\n")))

-- how many pages it has, how often it was tried, and when last
unfoldable pub facts_part : UndeliveredView → List ℕ
facts_part call =
    codes "<p>Pages: " ++ (decimal call.pages ++ (codes ". Tries: " ++ (decimal call.tries
    ++ (codes ", the last: " ++ (text_shown call.at.now ++ codes ".</p>\n")))))

unfoldable pub why_part : UndeliveredView → List ℕ
why_part call = codes "<p>Why: " ++ (text_shown call.outcome.now ++ codes ".</p>\n")

-- the names that a word has of it
unfoldable pub name_part : UndeliveredView → List ℕ
name_part call = text_shown call.line.now
    ++ (codes " " ++ (decimal call.life ++ (codes " " ++ decimal call.call.call)))

unfoldable pub word_part : List ℕ → UndeliveredView → List ℕ
word_part word call = word ++ (name_part call ++ WORD_END.now)

-- its line, its number and tag; the facts; how its job ended last; the words that send its pages again, and that drop them
unfoldable pub told_part : UndeliveredView → List ℕ
told_part call = codes "<div>\n" ++ (heading_part call ++ (facts_part call ++ (why_part call
    ++ (word_part RETRY.now call ++ (word_part DISCARD.now call ++ codes "</div>\n")))))

-- A CALL: its picture, and what is told of it.
unfoldable pub call_part : UndeliveredView → List ℕ
call_part call =
    codes "<article>\n" ++ (picture_part call ++ (told_part call ++ codes "</article>\n"))

unfoldable pub shown_undelivered : List UndeliveredView → List ℕ
shown_undelivered calls = UNDELIVERED.now ++ (flat_map call_part calls ++ UNDELIVERED_END.now)

-- all of them, or nothing where there are none
abbrev pub undelivered_part : List UndeliveredView → List ℕ
undelivered_part calls = if nat_eq (length calls) 0 then [] else shown_undelivered calls
