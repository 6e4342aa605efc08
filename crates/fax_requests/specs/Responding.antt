-- The credentials that answer a challenge (RFC 7616, 3.4; RFC 3261, 25.1).
use Rattle.std.specs.Prelude.{ℕ, List, [], ◌∷◌, ◌++◌, codes, Option, None, Some, option_map}
use Rattle.fax_digest.specs.declared.algorithm.Algorithm.{Algorithm}
use Rattle.fax_digest.specs.declared.algorithm.Algorithm.TheVariants.{Md5, Sha256}
use Rattle.fax_digest.specs.declared.answering.Credentials.{Credentials}
use Rattle.fax_digest.specs.Responses.{response_of}
use Rattle.fax_requests.specs.declared.challenge.Challenge.{Challenge}

-- a name and a text in quotation marks
abbrev pub quoted : List ℕ → List ℕ → List ℕ
quoted name text = name ++ (34 ∷ [] ++ (text ++ 34 ∷ []))

abbrev pub word_of : Algorithm → List ℕ
word_of Md5 = codes "MD5"
word_of Sha256 = codes "SHA-256"

abbrev pub opaque_part : Option (List ℕ) → List ℕ
opaque_part None = []
opaque_part (Some text) = quoted (codes ", opaque=") text

-- who answers, and what
abbrev pub who_part : Credentials → List ℕ
who_part asked =
    quoted (codes "Digest username=") asked.user.now ++ (quoted (codes ", realm=") asked.realm.now
    ++ (quoted (codes ", nonce=") asked.nonce.now ++ quoted (codes ", uri=") asked.uri.now))

-- the answer, and what it was made of
abbrev pub answer_part : Challenge → Credentials → List ℕ
answer_part challenge asked = quoted (codes ", response=") (response_of challenge.algorithm asked)
    ++ (quoted (codes ", cnonce=") asked.client_nonce.now
    ++ opaque_part (option_map (λ text. text.now) challenge.opaque))

abbrev pub rest_part : Challenge → Credentials → List ℕ
rest_part challenge asked = (codes ", nc=" ++ asked.count.now)
    ++ (codes ", qop=auth, algorithm=" ++ word_of challenge.algorithm)

abbrev pub credentials_value : Challenge → Credentials → List ℕ
credentials_value challenge asked =
    who_part asked ++ (answer_part challenge asked ++ rest_part challenge asked)
