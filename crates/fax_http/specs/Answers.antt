-- The octets of an answer (RFC 9110, 8 and 15; RFC 9112, 4 and 6.2; which fields stand there is this project's profile).
use Rattle.std.specs.Prelude.{ℕ, ◌++◌, Bool, if◌then◌else◌, List, [], codes, decimal, length}
use Rattle.fax_http.specs.declared.answer.Answer.{Answer}
use Rattle.fax_http.specs.declared.answer.Content.{Content}
use Rattle.fax_http.specs.declared.answer.Content.TheVariants as contents
use Rattle.fax_http.specs.declared.answer.Status.{Status}
use Rattle.fax_http.specs.declared.answer.Status.TheVariants as statuses
use Rattle.fax_http.specs.declared.question.Refusal.{Refusal}
use Rattle.fax_http.specs.declared.question.Refusal.TheVariants.{NotAllowed, NotFound, TooLong, Unreadable}

abbrev pub status_text : Status → List ℕ
status_text statuses.Good = codes "200 OK"
status_text statuses.Unreadable = codes "400 Bad Request"
status_text statuses.NotFound = codes "404 Not Found"
status_text statuses.NotAllowed = codes "405 Method Not Allowed"
status_text statuses.TooLong = codes "431 Request Header Fields Too Large"
status_text statuses.NotWell = codes "503 Service Unavailable"

abbrev pub content_type : Content → List ℕ
content_type contents.Html = codes "text/html; charset=utf-8"
content_type contents.Text = codes "text/plain; charset=utf-8"
content_type contents.OpenMetrics =
    codes "application/openmetrics-text; version=1.0.0; charset=utf-8"
content_type contents.Png = codes "image/png"

-- whether it may be kept, for how many seconds, and by whom (RFC 9111, 5.2.2): a picture never changes
abbrev pub keeping : Content → List ℕ
keeping contents.Html = codes "no-store"
keeping contents.Text = codes "no-store"
keeping contents.OpenMetrics = codes "no-store"
keeping contents.Png = codes "private, max-age=600"

-- a field, with its end
abbrev pub field : List ℕ → List ℕ → List ℕ
field name value = name ++ (codes ": " ++ (value ++ codes "\r\n"))

-- which methods are taken, where another one was refused
abbrev pub allowed : Status → List ℕ
allowed statuses.NotAllowed = field (codes "Allow") (codes "GET, HEAD")
allowed statuses.Good = []
allowed statuses.Unreadable = []
allowed statuses.NotFound = []
allowed statuses.TooLong = []
allowed statuses.NotWell = []

abbrev pub status_line : Status → List ℕ
status_line status = codes "HTTP/1.1 " ++ (status_text status ++ codes "\r\n")

-- what each answer says: the connection ends after it, its type is not guessed, and its page takes nothing from elsewhere
-- and runs nothing; and the empty line
abbrev pub lasting : List ℕ
lasting = field (codes "Connection") (codes "close") ++ (field (codes "X-Content-Type-Options")
    (codes "nosniff") ++ (field (codes "Content-Security-Policy")
    (codes "default-src 'none'; style-src 'unsafe-inline'; img-src 'self' data:") ++ codes "\r\n"))

-- THE HEAD OF AN ANSWER: its status line, its fields, an empty line.
abbrev pub head_octets : Status → Content → ℕ → List ℕ
head_octets status content count =
    status_line status
    ++ (field (codes "Content-Type") (content_type content)
    ++ (field (codes "Content-Length") (decimal count)
    ++ (field (codes "Cache-Control") (keeping content)
    ++ (allowed status ++ lasting))))

-- THE OCTETS OF AN ANSWER: that to HEAD has the same head, and no body.
abbrev pub answer_octets : Answer → Bool → List ℕ
answer_octets answer has_body = if has_body
    then head_octets answer.status answer.content (length answer.body.now) ++ answer.body.now
    else head_octets answer.status answer.content (length answer.body.now)

-- ---- refusals

abbrev pub status_of : Refusal → Status
status_of Unreadable = statuses.Unreadable
status_of NotFound = statuses.NotFound
status_of NotAllowed = statuses.NotAllowed
status_of TooLong = statuses.TooLong

abbrev pub refusal_text : Refusal → List ℕ
refusal_text Unreadable = codes "this request cannot be read\n"
refusal_text NotFound = codes "nothing is here\n"
refusal_text NotAllowed = codes "only GET and HEAD are taken\n"
refusal_text TooLong = codes "this request is too long\n"
