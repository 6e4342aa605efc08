-- The names of header fields, and their compact forms (RFC 3261, 7.3.3; RFC 4028, 4).
use Rattle.std.specs.Prelude.{Bool, ◌||◌, List, ℕ, codes}
use Rattle.fax_sip.specs.declared.name.Name.{Name}
use Rattle.fax_sip.specs.declared.name.Name.TheVariants as name
use Rattle.fax_sip.specs.Texts.{is_word}

abbrev pub long : Name → List ℕ
long name.Via = codes "Via"
long name.From = codes "From"
long name.To = codes "To"
long name.CallId = codes "Call-ID"
long name.CSeq = codes "CSeq"
long name.Contact = codes "Contact"
long name.RecordRoute = codes "Record-Route"
long name.Route = codes "Route"
long name.MaxForwards = codes "Max-Forwards"
long name.Require = codes "Require"
long name.Supported = codes "Supported"
long name.Allow = codes "Allow"
long name.ContentType = codes "Content-Type"
long name.ContentLength = codes "Content-Length"
long name.ContentEncoding = codes "Content-Encoding"
long name.Expires = codes "Expires"
long name.MinExpires = codes "Min-Expires"
long name.SessionExpires = codes "Session-Expires"
long name.MinSe = codes "Min-SE"
long name.RetryAfter = codes "Retry-After"
long name.WwwAuthenticate = codes "WWW-Authenticate"
long name.ProxyAuthenticate = codes "Proxy-Authenticate"
long name.Authorization = codes "Authorization"
long name.ProxyAuthorization = codes "Proxy-Authorization"

-- the compact form, or the name where it has none
abbrev pub compact : Name → List ℕ
compact name.Via = codes "v"
compact name.From = codes "f"
compact name.To = codes "t"
compact name.CallId = codes "i"
compact name.Contact = codes "m"
compact name.Supported = codes "k"
compact name.ContentType = codes "c"
compact name.ContentLength = codes "l"
compact name.ContentEncoding = codes "e"
compact name.SessionExpires = codes "x"
compact other = long other

-- a word is the name or its compact form
abbrev pub is_named : Name → List ℕ → Bool
is_named name word = is_word word (long name) || is_word word (compact name)
