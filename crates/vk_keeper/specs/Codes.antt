-- Codes, by which proofs tell values apart: each type as the tuple of its fields.
use Rattle.std.specs.Prelude.{◌≡◌, ℕ, List, Bool, Option, Some, None, refl}
use Rattle.std.specs.Coded.{Coded, code_by, coded×, coded_ℕ, coded_bool, coded_list, coded_option}
use Rattle.vk_wire.specs.declared.wire.WireCom.{WireCom}
use Rattle.vk_seal.specs.declared.secret.XTape.{XTape}
use Rattle.vk_seal.specs.declared.secret.Secret.{Secret}
use Rattle.vk_seal.specs.declared.secret.Seal.{Seal}
use Rattle.vk_keeper.specs.declared.auction.Phase.{Phase}
use Rattle.vk_keeper.specs.declared.auction.Phase.TheVariants.{Taking, Proved, Answered}
use Rattle.vk_keeper.specs.declared.auction.SealRow.{SealRow}
use Rattle.vk_keeper.specs.declared.auction.Auction.{Auction}

-- a code of what two numbers make
abbrev pub numbers_code : {X : Type 0} (parts : X → ℕ × ℕ) (whole : ℕ × ℕ → X)
    → ((x : X) → whole (parts x) ≡ x) → Coded X
numbers_code = code_by (ℕ × ℕ) (coded× coded_ℕ coded_ℕ)

abbrev pub bytes_code : Coded (List ℕ)
bytes_code = coded_list coded_ℕ

abbrev pub com_code : Coded WireCom
com_code =
    code_by (List ℕ × List ℕ) (coded× bytes_code bytes_code)
    (λ c. (c.first, c.second)) (λ p. record { first = p.0; second = p.1 }) (λ _. refl)

abbrev pub tape_code : Coded XTape
tape_code =
    code_by (ℕ × (List ℕ × List ℕ)) (coded× coded_ℕ (coded× bytes_code bytes_code))
    (λ t. (t.mask, (t.first_key, t.second_key)))
    (λ p. record { mask = p.0; first_key = p.1.0; second_key = p.1.1 }) (λ _. refl)

abbrev pub seal_code : Coded Seal
seal_code =
    code_by (List ℕ × (ℕ × List WireCom)) (coded× bytes_code (coded× coded_ℕ (coded_list com_code)))
    (λ s. (s.auction, (s.seat, s.lanes)))
    (λ p. record { auction = p.0; seat = p.1.0; lanes = p.1.1 }) (λ _. refl)

abbrev pub secret_code : Coded Secret
secret_code =
    code_by (List ℕ × (ℕ × (ℕ × List XTape)))
    (coded× bytes_code (coded× coded_ℕ (coded× coded_ℕ (coded_list tape_code))))
    (λ s. (s.auction, (s.seat, (s.bid, s.lanes))))
    (λ p. record { auction = p.0; seat = p.1.0; bid = p.1.1.0; lanes = p.1.1.1 }) (λ _. refl)

abbrev pub row_code : Coded SealRow
row_code =
    code_by (Seal × Secret) (coded× seal_code secret_code)
    (λ r. (r.seal, r.secret)) (λ p. record { seal = p.0; secret = p.1 }) (λ _. refl)

-- a phase as nothing, or a seed and perhaps bits
abbrev pub phase_parts : Phase → Option (List ℕ × Option (List Bool))
phase_parts Taking = None
phase_parts (Proved seed) = Some (seed, None)
phase_parts (Answered seed challenge) = Some (seed, Some challenge.bits)

abbrev pub phase_with : List ℕ → Option (List Bool) → Phase
phase_with seed None = Proved seed
phase_with seed (Some bits) = Answered seed (record { bits = bits })

abbrev pub phase_from : Option (List ℕ × Option (List Bool)) → Phase
phase_from None = Taking
phase_from (Some parts) = phase_with parts.0 parts.1

pub phase_from-phase_parts : (phase : Phase) → phase_from (phase_parts phase) ≡ phase
phase_from-phase_parts Taking = refl
phase_from-phase_parts (Proved seed) = refl
phase_from-phase_parts (Answered seed challenge) = refl

abbrev pub phase_code : Coded Phase
phase_code =
    code_by (Option (List ℕ × Option (List Bool)))
    (coded_option (coded× bytes_code (coded_option (coded_list coded_bool))))
    phase_parts phase_from phase_from-phase_parts

abbrev pub auction_code : Coded Auction
auction_code =
    code_by (List ℕ × (ℕ × (ℕ × (ℕ × (ℕ × (Phase × List SealRow))))))
    (coded× bytes_code (coded× coded_ℕ
    (coded× coded_ℕ (coded× coded_ℕ
    (coded× coded_ℕ (coded× phase_code (coded_list row_code)))))))
    (λ a. (a.id, (a.version, (a.width, (a.lanes, (a.reserve, (a.phase, a.seals)))))))
    (λ p. record {
      id = p.0;
      version = p.1.0;
      width = p.1.1.0;
      lanes = p.1.1.1.0;
      reserve = p.1.1.1.1.0;
      phase = p.1.1.1.1.1.0;
      seals = p.1.1.1.1.1.1;
    }) (λ _. refl)
