-- What two replies to a file come to holds of their bytes, and what isn't found is the one
-- extraction that holds.
use Rattle.std.proofs.Common.{◌≡◌, ℕ, Bool, true, false, if◌then◌else◌, List, Result, Ok, Err, refl, sym, ap, subst, ◌∙◌}
use Rattle.vk_judge.specs.declared.opened.Refusal.{Refusal}
use Rattle.vk_judge.specs.declared.stage.Finding.{Finding}
use Rattle.vk_judge.specs.declared.stage.Finding.TheVariants as ends
use Rattle.vk_judge.specs.FileForms.{Form, IsForm, told_of_second, two_told}
use Rattle.vk_judge.specs.Opened.{judged_in}
use Rattle.vk_judge.specs.Two.{accepted_of, same_bits}
use Rattle.vk_judge.specs.TwoLaw.{bits_in}
use Rattle.vk_judge.proofs.FileForms.{finds_by_both, judged_exact}
use Rattle.vk_bids.specs.declared.extraction.Extraction.TheVariants.{Refused, Same, Clash, Bids}
use Rattle.vk_bids.specs.Extractions.{IsFound}
use Rattle.vk_bids.specs.FileExtraction.{FileExtraction, IsFoundBy, file_extraction_in}
use Rattle.vk_bids.specs.FileHeadline.{ExtractionHoldsOf, IsOfFile, TwoAccepted}
use Rattle.vk_bids.proofs.FileHeadline.{found_by_finding, only_two, opens_two, same_found, same_shown}

module _ {F H R : Type 0} (form : Form F H R) (is : IsForm form) (file challenge reply other second : List ℕ) where
  abbrev Holds : FileExtraction H R → Type 0
  Holds extraction = ExtractionHoldsOf form extraction file challenge reply other second

  abbrev answered : FileExtraction H R
  answered = file_extraction_in form.front_at file challenge reply other second

  abbrev first : Result (Unit {0}) (Refusal R)
  first = judged_in form.front_at file challenge reply

  abbrev again : Result (Unit {0}) (Refusal R)
  again = judged_in form.front_at file other second

  abbrev accepted : Finding (Refusal R)
  accepted = accepted_of (bits_in challenge) (bits_in other)

  abbrev Comes : Finding (Refusal R) → Type 0
  Comes found = IsFoundBy (λ (refusal : Refusal R). refusal) found answered

  -- by what both are judged to be
  by_both : (one another : Result (Unit {0}) (Refusal R)) → first ≡ one → again ≡ another
      → Comes (two_told accepted one another)
  by_both one another one_is another_is =
      subst Comes (finds_by_both form.front_at file challenge reply other second
      ∙ (ap (λ j. two_told accepted j again) one_is ∙ ap (two_told accepted one) another_is))
      (found_by_finding form is file challenge reply other second)

  by_first : (refusal : Refusal R) → first ≡ Err refusal → answered ≡ Refused false refusal
  by_first refusal one_is = by_both (Err refusal) again one_is refl

  by_second : (refusal : Refusal R) → first ≡ Ok tt → again ≡ Err refusal
      → answered ≡ Refused true (told_of_second refusal)
  by_second refusal one_is another_is = by_both (Ok tt) (Err refusal) one_is another_is

  of_two : (two : TwoAccepted form.fronts file challenge reply other second)
      (extraction : FileExtraction H R) → IsOfFile form two extraction → Holds extraction
  of_two two (Refused of_second refusal) is_of = absurd is_of
  of_two two Same is_of = absurd is_of
  of_two two (Clash clash) is_of = (two, is_of)
  of_two two (Bids found) is_of = (two, is_of)

  by_bits : (test : Bool) → same_bits (bits_in challenge) (bits_in other) ≡ test
      → first ≡ Ok tt → again ≡ Ok tt → Holds answered
  by_bits test test_is one_is another_is =
      by_found test (subst (λ (t : Bool). Comes (if t then ends.Same else ends.Ready)) test_is
      (by_both (Ok tt) (Ok tt) one_is another_is))
    where
      by_found : (test : Bool) → Comes (if test then ends.Same else ends.Ready) → Holds answered
      by_found true comes =
          subst Holds (sym comes) (same_found form is file challenge reply other second comes)
      by_found false comes =
          let two = only_two form is file challenge reply other second comes in
          of_two two answered (opens_two form is file challenge reply other second two)

  holds_by : (one another : Result (Unit {0}) (Refusal R)) → first ≡ one → again ≡ another
      → Holds answered
  holds_by (Err refusal) another one_is another_is =
      subst Holds (sym (by_first refusal one_is))
      ((judged_exact form is file challenge reply (Err refusal)).0 one_is)
  holds_by (Ok done) (Err refusal) one_is another_is =
      subst Holds (sym (by_second refusal one_is another_is)) (
        (judged_exact form is file challenge reply (Ok tt)).0 one_is,
        record {
          fault = refusal;
          holds = (judged_exact form is file other second (Err refusal)).0 another_is;
          refusal_is = refl;
        },
      )
  holds_by (Ok done) (Ok over) one_is another_is =
      by_bits (same_bits (bits_in challenge) (bits_in other)) refl one_is another_is

  pub file_extraction_holds : Holds answered
  file_extraction_holds = holds_by first again refl refl

  -- and what isn't found is the one that holds
  pub file_unfound_found : (extraction : FileExtraction H R) → ¬ IsFound extraction
      → Holds extraction → answered ≡ extraction
  file_unfound_found (Refused false refusal) unfound holds =
      by_first refusal ((judged_exact form is file challenge reply (Err refusal)).1 holds)
  file_unfound_found (Refused true refusal) unfound holds =
      let fails = holds.1 in
      by_second fails.fault ((judged_exact form is file challenge reply (Ok tt)).1 holds.0)
      ((judged_exact form is file other second (Err fails.fault)).1 fails.holds)
      ∙ ap (Refused true) (sym fails.refusal_is)
  file_unfound_found Same unfound holds = same_shown form is file challenge reply other second holds
  file_unfound_found (Clash clash) unfound holds = absurd (unfound tt)
  file_unfound_found (Bids found) unfound holds = absurd (unfound tt)
