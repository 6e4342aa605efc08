-- The octets of a notice (sd_notify(3): variables with their values, parted by line feeds; the words are this project's profile).
use Rattle.std.specs.Prelude.{◌++◌, List, ℕ, codes, decimal}
use Rattle.fax_notify.specs.declared.notice.Notice.{Notice}
use Rattle.fax_notify.specs.declared.notice.Notice.TheVariants.{Ready, Stopping}

-- a variable and its value
abbrev pub assigned : (name value : List ℕ) → List ℕ
assigned name value = name ++ (codes "=" ++ value)

-- the variable that says it
abbrev pub state_of : Notice → List ℕ
state_of (Ready lines) = codes "READY"
state_of Stopping = codes "STOPPING"

-- the same in words, for who looks at the server by the manager's own command
abbrev pub words_of : Notice → List ℕ
words_of (Ready lines) = codes "lines open: " ++ decimal lines
words_of Stopping = codes "stops once no line has a call or a job"

-- THE MESSAGE: READY=1 or STOPPING=1, a line feed, and STATUS= with the words.
abbrev pub message_octets : Notice → List ℕ
message_octets notice = assigned (state_of notice) (codes "1")
    ++ (codes "\n" ++ assigned (codes "STATUS") (words_of notice))
