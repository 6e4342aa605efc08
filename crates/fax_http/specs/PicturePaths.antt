-- At which path the picture of a call is (RFC 3986, 2 and 3.3; the path is this project's profile).
use Rattle.std.specs.Prelude.{◌≡◌, ℕ, ◌++◌, List, codes, decimal}
use Rattle.httparse.specs.Grammar.{ReadsRequest, RequestHead}
use Rattle.percent_encoding.specs.Percent.{percent_encode}
use Rattle.fax_http.specs.declared.paths.TheConstants.{ESCAPED}
use Rattle.fax_http.specs.Questions.{path_of}

-- THE PATH: /undelivered/LINE/LIFE/CALL.png. Of the line's name, letters, digits, `-`, `.`, `_` and `~` stand as they are, and each other octet as
-- `%` and two hexadecimal digits.
unfoldable pub picture_path : (line : List ℕ) → (life call : ℕ) → List ℕ
picture_path line life call = codes "/undelivered/" ++ percent_encode ESCAPED line
    ++ (codes "/" ++ decimal life ++ codes "/" ++ decimal call ++ codes ".png")

-- the head that stands at the front of octets asks for this path
pub record AsksForPath (octets path : List ℕ) : Type 0 where
  pub head : RequestHead
  pub rest : List ℕ
  pub reads : ReadsRequest octets head rest
  pub is : path ≡ path_of head.target
