-- What the statuses that we answer mean, in words (RFC 3261, 21; RFC 4028, 6).
use Rattle.std.specs.Prelude.{ℕ, ◌==◌, if◌then◌else◌, List, codes}

abbrev pub reason : ℕ → List ℕ
reason status =
    if status == 100 then codes "Trying" else
    if status == 200 then codes "OK" else
    if status == 400 then codes "Bad Request" else
    if status == 403 then codes "Forbidden" else
    if status == 404 then codes "Not Found" else
    if status == 405 then codes "Method Not Allowed" else
    if status == 408 then codes "Request Timeout" else
    if status == 415 then codes "Unsupported Media Type" else
    if status == 420 then codes "Bad Extension" else
    if status == 422 then codes "Session Interval Too Small" else
    if status == 480 then codes "Temporarily Unavailable" else
    if status == 481 then codes "Call/Transaction Does Not Exist" else
    if status == 486 then codes "Busy Here" else
    if status == 487 then codes "Request Terminated" else
    if status == 488 then codes "Not Acceptable Here" else
    if status == 491 then codes "Request Pending" else
    if status == 500 then codes "Server Internal Error" else
    if status == 501 then codes "Not Implemented" else
    if status == 503 then codes "Service Unavailable" else codes "Refused"
