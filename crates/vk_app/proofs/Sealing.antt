-- How a `seal` ends, by its bid and its seed.
use Rattle.std.proofs.Common.{◌≡◌, ℕ, if◌then◌else◌, List, [], Option, Some, None, Result, Ok, Err, refl, ap, subst, ◌∙◌}
use Rattle.std.specs.Prelude.{◌^◌, ◌<◌, ◌≤◌, option_map}
use Rattle.std.proofs.lemmas.Bool.{le-ltb, lt-ltb}
use Rattle.vk_io.specs.Files.{Files}
use Rattle.vk_io.specs.Writing.{written}
use Rattle.vk_keeper.specs.Ledgers.{Ledger}
use Rattle.vk_seal.specs.declared.making.SealErr.{SealErr}
use Rattle.vk_seal.specs.declared.making.SealErr.TheVariants.{BidTooLarge, DrySeed}
use Rattle.vk_seal.specs.declared.secret.Secret.{Secret}
use Rattle.vk_seal.specs.declared.secret.Seal.{Seal}
use Rattle.vk_seal.specs.Made.{seal_of, with_seal}
use Rattle.vk_words.specs.Orders.{SealWords}
use Rattle.vk_effect.specs.Effects.{Outside, outside, stores}
use Rattle.vk_effect.specs.Ends.{Done}
use Rattle.vk_app.specs.Sealing.{Seals, made_effect, seal_made, secret_drawn, seal_effect}

made_small : (order : SealWords) → order.bid < 2 ^ order.width
    → seal_made order ≡ with_seal (secret_drawn order)
unfolding seal_made
made_small order small = ap (λ b. if b then with_seal (secret_drawn order) else Err BidTooLarge)
    (lt-ltb order.bid (2 ^ order.width) small)

made_large : (order : SealWords) → 2 ^ order.width ≤ order.bid → seal_made order ≡ Err BidTooLarge
unfolding seal_made
made_large order large = ap (λ b. if b then with_seal (secret_drawn order) else Err BidTooLarge)
    (le-ltb order.bid (2 ^ order.width) large)

none_written : (held : Option Files) → option_map (written []) held ≡ held
none_written None = refl
none_written (Some files) = refl

pub seals : (order : SealWords) (ledger : Option Ledger) (held : Option Files) (status : ℕ)
    (old : Option (List ℕ)) (new : Outside)
    → Done status (seal_effect ledger order) (outside (stores held ledger) old) new
    → Seals order held new.files status old new.taken
seals order ledger held status old new done =
    let by : (made : Result (Secret × Seal) SealErr) → seal_made order ≡ made
    → Done status (made_effect ledger order made) (outside (stores held ledger) old) new =
    λ made is. subst (λ m. Done status (made_effect ledger order m)
    (outside (stores held ledger) old) new) is done in
    record {
      too_large = λ large. (let end = by (Err BidTooLarge) (made_large order large) in
          ((end.status_is, end.taken_is), end.files_are ∙ none_written held));
      dry = λ lane small is. (let end =
          by (Err (DrySeed lane)) (made_small order small ∙ ap with_seal is) in
          ((end.status_is, end.taken_is), end.files_are ∙ none_written held));
      made = λ secret small is.
          (let end = by (Ok (secret, seal_of secret)) (made_small order small ∙ ap with_seal is) in
          ((end.status_is, end.taken_is), end.files_are));
    }
