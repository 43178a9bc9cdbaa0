-- Whether a seal is that of a secret, and if not, the first field that differs.
use Rattle.std.specs.Prelude.{ℕ, ◌+◌, ◌==◌, if◌then◌else◌, Bool, true, false, List, [], ◌∷◌, length, Result, Ok, Err}
use Rattle.std.specs.Str.{bytes_eq}
use Rattle.vk_wire.specs.declared.wire.WireCom.{WireCom}
use Rattle.vk_seal.specs.declared.matching.Mismatch.{Mismatch}
use Rattle.vk_seal.specs.declared.matching.Mismatch.TheVariants.{Auction, Seat, Lanes, Digest}
use Rattle.vk_seal.specs.declared.secret.XTape.{XTape}
use Rattle.vk_seal.specs.declared.secret.Secret.{Secret}
use Rattle.vk_seal.specs.declared.secret.Seal.{Seal}
use Rattle.vk_seal.specs.Made.{lane_com}

-- one test after another: the first that fails is the mismatch
abbrev pub and_then : Result Unit Mismatch → Result Unit Mismatch → Result Unit Mismatch
and_then (Ok done) next = next
and_then (Err mismatch) next = Err mismatch

-- the digest of a half, where the kept one isn't the one made from the secret
abbrev pub half_match : ℕ → Bool → List ℕ → List ℕ → Result Unit Mismatch
half_match lane second kept made = if bytes_eq kept made then Ok tt
    else Err (Digest lane second kept made)

-- the first digest of a lane that differs, of the kept commitments and those made from the secret
abbrev pub com_match : ℕ → WireCom → WireCom → Result Unit Mismatch
com_match lane kept made = and_then (half_match lane false kept.first made.first)
    (half_match lane true kept.second made.second)

-- lane by lane from that number on
abbrev pub coms_match : List ℕ → ℕ → ℕ → ℕ → List XTape → List WireCom → Result Unit Mismatch
coms_match auction seat bid lane (tape ∷ tapes) (kept ∷ coms) =
    and_then (com_match lane kept (lane_com auction seat bid lane tape))
    (coms_match auction seat bid (lane + 1) tapes coms)
coms_match auction seat bid lane [] coms = Ok tt
coms_match auction seat bid lane (tape ∷ tapes) [] = Ok tt

-- the auction, the seat, the number of lanes and then lane by lane
abbrev pub match_of : Secret → Seal → Result Unit Mismatch
match_of secret seal =
    if bytes_eq seal.auction secret.auction
    then (if seal.seat == secret.seat
    then (if length seal.lanes == length secret.lanes
    then coms_match secret.auction secret.seat secret.bid 1 secret.lanes seal.lanes
    else Err (Lanes (length seal.lanes) (length secret.lanes)))
    else Err (Seat seal.seat secret.seat))
    else Err (Auction seal.auction secret.auction)
