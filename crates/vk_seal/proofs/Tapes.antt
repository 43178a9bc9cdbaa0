-- The commitments made from tapes.
use Rattle.std.proofs.Common.{◌≡◌, ℕ, suc, ◌+◌, ◌*◌, ◌%◌, ◌^◌, ◌<◌, ◌≤◌, List, [], ◌∷◌, ◌++◌, length, drop, get_or, refl, ap, sym, ◌∙◌, arith, append_assoc}
use Rattle.std.proofs.Math.Nat.{pow-le-pow_right}
use Rattle.std.proofs.lemmas.List.{drop_more}
use Rattle.vk_wire.specs.declared.wire.WireCom.{WireCom}
use Rattle.vk_seal.specs.declared.secret.XTape.{XTape}
use Rattle.vk_seal.specs.Made.{lane_com, lane_coms}

below_part : (bid power : ℕ) → bid < (1 * power) % 2 ^ 64 → power ≤ 2 ^ 40 → bid < 2 ^ 40
below_part bid power small most = omega arith

-- a bid below 1 << width is below 2^40
pub below_width : (bid width : ℕ) → bid < (1 * 2 ^ width) % 2 ^ 64 → width ≤ 40 → bid < 2 ^ 40
below_width bid width small few =
    let most : 2 ^ width ≤ 2 ^ 40 = pow-le-pow_right {n = 2} (omega arith) few in
    below_part bid (2 ^ width) small most

-- the commitments of a lane more
pub coms_turn : (auction : List ℕ) (seat bid : ℕ) (tapes : List XTape) (index : ℕ) (tape : XTape)
    (before after : List WireCom) (made : WireCom) (whole : List WireCom)
    → index < length tapes → tape ≡ get_or tapes index tape
    → made ≡ lane_com auction seat bid (index + 1) tape → after ≡ before ++ made ∷ []
    → before ++ lane_coms auction seat bid (index + 1) (drop index tapes) ≡ whole
    → after ++ lane_coms auction seat bid (index + 1 + 1) (drop (index + 1) tapes) ≡ whole
coms_turn auction seat bid tapes index tape before after made whole within is com_is pushed so_far =
    let first : drop index tapes ≡ tape ∷ drop (index + 1) tapes = drop_more tapes index tape within
    ∙ ap (λ t. t ∷ drop (index + 1) tapes) (sym is) in
    ap (λ front. front ++ lane_coms auction seat bid (index + 1 + 1) (drop (index + 1) tapes))
    pushed
    ∙ append_assoc before (made ∷ [])
    (lane_coms auction seat bid (index + 1 + 1) (drop (index + 1) tapes))
    ∙ ap (λ m. before ++ m ∷ lane_coms auction seat bid (index + 1 + 1) (drop (index + 1) tapes))
    com_is
    ∙ ap (λ ts. before ++ lane_coms auction seat bid (index + 1) ts) (sym first)
    ∙ so_far

-- one pair of commitments for each tape
pub length-lane_coms : (auction : List ℕ) (seat bid lane : ℕ) (tapes : List XTape)
    → length (lane_coms auction seat bid lane tapes) ≡ length tapes
length-lane_coms auction seat bid lane [] = refl
length-lane_coms auction seat bid lane (tape ∷ tapes) =
    ap suc (length-lane_coms auction seat bid (lane + 1) tapes)
