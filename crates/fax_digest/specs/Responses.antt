-- What answers a challenge with `qop=auth` (RFC 7616, 3.4.1 to 3.4.3; RFC 8760).
use Rattle.std.specs.Prelude.{ℕ, ◌++◌, List, [], ◌∷◌, codes}
use Rattle.fax_digest.specs.declared.algorithm.Algorithm.{Algorithm}
use Rattle.fax_digest.specs.declared.algorithm.Algorithm.TheVariants.{Md5, Sha256}
use Rattle.fax_digest.specs.declared.answering.Credentials.{Credentials}
use Rattle.hex.specs.Hex.{encode_lower}
use Rattle.md5.specs.Md5.{md5}
use Rattle.sha2.specs.Sha256.{sha256}

-- a digest in hexadecimal digits
abbrev pub md5_digits : List ℕ → List ℕ
md5_digits text = encode_lower (md5 text)

abbrev pub sha256_digits : List ℕ → List ℕ
sha256_digits text = encode_lower (sha256 text)

abbrev pub hash : Algorithm → List ℕ → List ℕ
hash Md5 text = md5_digits text
hash Sha256 text = sha256_digits text

-- a text, a colon and another text
abbrev pub with_colon : List ℕ → List ℕ → List ℕ
with_colon text other = text ++ 58 ∷ [] ++ other

-- A1: the user, the realm and the password (3.4.2)
abbrev pub who_asks : Credentials → List ℕ
who_asks credentials =
    with_colon (with_colon credentials.user.now credentials.realm.now) credentials.password.now

-- A2: the method and the Request-URI (3.4.3)
abbrev pub what_is_asked : Credentials → List ℕ
what_is_asked credentials = with_colon credentials.method.now credentials.uri.now

-- the digest of A1, the nonce, its count, our nonce, the quality, and the digest of A2
abbrev pub what_is_said : Credentials → List ℕ → List ℕ → List ℕ
what_is_said credentials who what =
    with_colon (with_colon (with_colon (with_colon (with_colon who credentials.nonce.now)
    credentials.count.now) credentials.client_nonce.now) (codes "auth")) what

-- `response` (3.4.1)
abbrev pub response_of : Algorithm → Credentials → List ℕ
response_of algorithm credentials =
    hash algorithm (what_is_said credentials (hash algorithm (who_asks credentials))
    (hash algorithm (what_is_asked credentials)))
