-- Secrets and seals: what a bidder keeps and what a bidder hands in.
use Rattle.std.specs.Prelude.{◌^◌, ◌<◌, ◌≤◌, length, false}
use Rattle.std.specs.List.{AllByRecursion}
use Rattle.vk_residue.specs.Limits.{IsLaneCount}
use Rattle.vk_residue.specs.Residue.{IsResidue}
use Rattle.vk_commit.specs.Values.{AreBytes}
use Rattle.vk_wire.specs.Values.{IsCom}
use Rattle.vk_wire.specs.declared.wire.WireTape.{WireTape}
use Rattle.vk_seal.specs.declared.secret.XTape.{XTape}
use Rattle.vk_seal.specs.declared.secret.Secret.{Secret}
use Rattle.vk_seal.specs.declared.secret.Seal.{Seal}

-- a residue and two keys
abbrev pub IsXTape : XTape → Type 0
IsXTape tape = IsResidue tape.mask × AreBytes 32 tape.first_key × AreBytes 32 tape.second_key

-- a secret: the id of an auction, a bidder's seat, a bid below 2^40, and the tape of each of up to
-- 64 lanes
pub record IsSecret (secret : Secret) : Type 0 where
  pub id : AreBytes 16 secret.auction
  pub some_seat : 1 ≤ secret.seat
  pub last_seat : secret.seat ≤ 65535
  pub small_bid : secret.bid < 2 ^ 40
  pub count : IsLaneCount (length secret.lanes)
  pub tapes : AllByRecursion IsXTape secret.lanes

-- a seal: the id of an auction, a bidder's seat, and the two commitments of each of up to 64 lanes
pub record IsSeal (seal : Seal) : Type 0 where
  pub id : AreBytes 16 seal.auction
  pub some_seat : 1 ≤ seal.seat
  pub last_seat : seal.seat ≤ 65535
  pub count : IsLaneCount (length seal.lanes)
  pub coms : AllByRecursion IsCom seal.lanes

-- the tape of a wire that is split: it never swaps
abbrev pub wire_tape : XTape → WireTape
wire_tape tape = record {
  mask = tape.mask;
  swap = false;
  first_key = tape.first_key;
  second_key = tape.second_key;
}
