-- A job as contracts see it.
use Rattle.std.specs.Prelude.{◌≡◌, ℕ, Option, Some, None, refl}
use Rattle.std.specs.Coded.{Coded, code_by, coded×, coded_ℕ, coded_option}
use Rattle.vk_vickrey.specs.declared.sales.Sale.{Sale}
use Rattle.vk_vickrey.specs.declared.sales.Sale.TheVariants.{Sold, Unsold}
use Rattle.vk_keeper.specs.declared.auction.Auction.{Auction}
use Rattle.vk_keeper.specs.Codes.{auction_code}
use Rattle.vk_job.specs.Jobs.{IsProvedAuction, plan_of, proof_of, sale_in, values_of}
use Rattle.vk_job.specs.Proofs.{source_of, tapes_in}
use Rattle.vk_job.specs.declared.proof.Prepared.{Prepared}

-- an auction, and the sale of its bids
pub record JobValue : Type 0 where
  pub auction : Auction
  pub sale : Sale

-- a sale as nothing, or a position and a price
abbrev pub sale_parts : Sale → Option (ℕ × ℕ)
sale_parts (Sold position price) = Some (position, price)
sale_parts Unsold = None

abbrev pub sale_from : Option (ℕ × ℕ) → Sale
sale_from (Some parts) = Sold parts.0 parts.1
sale_from None = Unsold

pub sale_from-sale_parts : (sale : Sale) → sale_from (sale_parts sale) ≡ sale
sale_from-sale_parts (Sold position price) = refl
sale_from-sale_parts Unsold = refl

-- by which proofs tell jobs apart: each as the tuple of its fields
abbrev pub sale_code : Coded Sale
sale_code = code_by (Option (ℕ × ℕ)) (coded_option (coded× coded_ℕ coded_ℕ)) sale_parts sale_from
    sale_from-sale_parts

abbrev pub job_code : Coded JobValue
job_code =
    code_by (Auction × Sale) (coded× auction_code sale_code)
    (λ j. (j.auction, j.sale)) (λ p. record { auction = p.0; sale = p.1 }) (λ _. refl)

-- what every job keeps: its auction is proved, and the rest is what the auction gives
pub record IsJob (auction : Auction) (sale : Sale) (made : Prepared) : Type 0 where
  pub proved : IsProvedAuction auction
  pub sale_is : sale ≡ sale_in auction
  pub plan_is : made.plan ≡ plan_of auction
  pub table_is : made.table ≡ made.plan.rows
  pub values_are : made.values ≡ values_of auction
  pub tapes_are : made.tapes ≡ tapes_in (source_of (proof_of auction))
