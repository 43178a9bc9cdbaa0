-- Two replies to a file of any form that are accepted for different challenges give values for
-- which its circuit holds, or a clash. Only such replies do.
use Rattle.std.proofs.Common.{◌≡◌, ℕ, Bool, true, false, List, [], Option, Some, None, IsSome, option_map, Result, Ok, Err, refl, sym, ap, subst, ◌∙◌}
use Rattle.std.specs.Prelude.{◌≢◌}
use Rattle.vk_commit.specs.Commitment.{TwoOpeningsSeen}
use Rattle.vk_lines.specs.Lines.{Rest}
use Rattle.vk_judge.specs.declared.answers.Fault.{Fault}
use Rattle.vk_judge.specs.declared.opened.Opened.{Opened}
use Rattle.vk_judge.specs.declared.opened.Refusal.{Refusal}
use Rattle.vk_judge.specs.declared.stage.Base.{Base}
use Rattle.vk_judge.specs.declared.stage.Finding.{Finding}
use Rattle.vk_judge.specs.declared.stage.Finding.TheVariants as ends
use Rattle.vk_judge.specs.declared.stage.TwoLane.{TwoLane}
use Rattle.vk_judge.specs.Acceptance.{AcceptsBehind}
use Rattle.vk_judge.specs.Begun.{from_start}
use Rattle.vk_judge.specs.FileForms.{Accepts, Form, IsForm, bits_of}
use Rattle.vk_judge.specs.Opened.{Coming, FileBase, as_found, coming_in, with_head}
use Rattle.vk_judge.specs.Two.{BothAreAccepted, accepted_of, ahead_behind, base_behind, base_in, same_bits}
use Rattle.vk_judge.proofs.FileForms.{accepted_front, accepted_give, on_one, only_accepted_give}
use Rattle.vk_bids.specs.declared.bids.LaneBids.{LaneBids}
use Rattle.vk_bids.specs.declared.extraction.Extraction.TheVariants.{Same}
use Rattle.vk_bids.specs.Extractions.{IsFound, found_by, gathered_after, given_by}
use Rattle.vk_bids.specs.FileExtraction.{FileExtraction, IsFoundBy, extraction_past, file_extraction_in, opened_by}
use Rattle.vk_bids.specs.FileHeadline.{AcceptedOpen, ExtractsByFinding, IsOfFile, OnlyAcceptedOpenFile, SameAccepted, SameIsFoundOfFile, TwoAccepted}
use Rattle.vk_bids.specs.Gathering.{gathered_from}
use Rattle.vk_bids.specs.LaneExtraction.{opened_of}
use Rattle.vk_bids.specs.OpenedBehind.{IsOfBehind, TwoAcceptedBehind}
use Rattle.vk_bids.proofs.Headlines.{accepted_behind_open, accepted_same, bits_differ, found_ready, of_test, same_bits_are}

module _ {F H R : Type 0} (form : Form F H R) (is : IsForm form) (file challenge reply other second : List ℕ) where
  abbrev past : Result (Opened H × Rest) (Refusal R) → FileExtraction H R
  past read = extraction_past read (from_start challenge) (from_start reply) (from_start other)
      (from_start second)

  abbrev coming : Coming H R
  coming = coming_in form.front_at file challenge reply other second

  abbrev extraction : FileExtraction H R
  extraction = file_extraction_in form.front_at file challenge reply other second

  -- ---- values

  module _ (one : Accepts form.fronts file challenge reply) where
    -- what the two replies come to behind the front of the first
    abbrev Opens : Accepts form.fronts file other second → Type 0
    Opens two = (differ : bits_of one ≢ bits_of two)
        → IsOfFile form (record { first = one; second = two; differ = differ }) extraction

    module _ (right : form.fronts.IsRight one.front)
        (behind : AcceptsBehind (form.fronts.statement one.front) (form.fronts.text one.front) file
        other second)
        (differ : one.behind.challenge.bits ≢ behind.challenge.bits) where
      abbrev both : TwoAcceptedBehind (form.fronts.statement one.front)
          (form.fronts.text one.front) file challenge reply other second
      both = record { first = one.behind; second = behind; differ = differ }

      abbrev two : TwoAccepted form.fronts file challenge reply other second
      two = record {
        first = one;
        second = record { front = one.front; right = right; behind = behind };
        differ = differ;
      }

      abbrev headed : Base → FileBase H
      headed = with_head (form.head one.front)

      of_gathered : (base : Base) (gathered : Result (List LaneBids) TwoOpeningsSeen)
          → IsOfBehind both (given_by (opened_of base.statement) gathered)
          → IsOfFile form two (given_by (opened_by (headed base)) gathered)
      of_gathered base (Ok lanes) is = record { head = refl; opened = is }
      of_gathered base (Err clash) is = is

      of_finding : (base : Option Base) (lanes : List TwoLane) (finding : Finding Fault)
          → IsOfBehind both (found_by (λ (base : Base). opened_of base.statement) base finding
          (gathered_after (λ (base : Base). base.statement) base lanes))
          → IsOfFile form two (found_by opened_by (option_map headed base) (as_found finding)
          (gathered_after (λ (known : FileBase H). known.base.statement)
          (option_map headed base) lanes))
      of_finding base lanes (ends.Refused of_second fault) is = absurd is
      of_finding base lanes ends.Same is = absurd is
      of_finding None lanes ends.Ready is = absurd is
      of_finding (Some base) lanes ends.Ready is =
          of_gathered base (gathered_from base.statement (Ok []) 1 lanes) is

      opens_behind : IsOfFile form two extraction
      opens_behind =
          let s = form.fronts.statement one.front in
          let read = accepted_front form is file one in
          let c = from_start challenge in
          let r = from_start reply in
          let o = from_start other in
          let t = from_start second in
          let ahead = ahead_behind s read.after c r o t in
          subst (IsOfFile form two) (sym (ap past read.read))
          (of_finding (base_in (base_behind s read.after c r o t)) ahead.lanes ahead.finding
          (accepted_behind_open s (is.statement one.front one.right) (form.fronts.text one.front)
          file challenge reply other second read.after read.text both))

  pub opens_two : (two : TwoAccepted form.fronts file challenge reply other second)
      → IsOfFile form two extraction
  opens_two two = on_one form is two.first two.second (Opens two.first) (opens_behind two.first)
      two.differ

  -- ---- only accepted replies

  abbrev found : Finding (Refusal R) → FileExtraction H R
  found finding = found_by opened_by coming.base finding
      (gathered_after (λ (known : FileBase H). known.base.statement) coming.base
      coming.ahead.lanes)

  both_of : BothAreAccepted coming.ahead.finding
      → Accepts form.fronts file challenge reply × Accepts form.fronts file other second
  both_of = only_accepted_give form is file challenge reply other second

  pub only_two : IsFound extraction
      → TwoAccepted form.fronts file challenge reply other second
  only_two is_found =
      let ready : coming.ahead.finding ≡ ends.Ready =
      found_ready opened_by coming.base coming.ahead.finding
      (gathered_after (λ (known : FileBase H). known.base.statement) coming.base
      coming.ahead.lanes) is_found in
      let A : Finding (Refusal R) → Type 0 = λ finding. BothAreAccepted finding in
      let both = both_of (subst A (sym ready) tt) in
      let give = accepted_give form is file challenge reply other second both.0 both.1 in
      record {
        first = both.0;
        second = both.1;
        differ = bits_differ {V = Refusal R} (bits_of both.0) (bits_of both.1)
            (sym give.2.finding ∙ ready);
      }

  -- ---- the same challenges

  same_accepted : (finding : Finding (Refusal R)) → found finding ≡ Same → BothAreAccepted finding
  same_accepted (ends.Refused of_second refusal) same = absurd (cc)
  same_accepted ends.Same same = tt
  same_accepted ends.Ready same = tt

  -- where the extraction is that the challenges are the same, they aren't different
  not_different : (two : TwoAccepted form.fronts file challenge reply other second)
      (e : FileExtraction H R) → e ≡ Same → ¬ IsOfFile form two e
  not_different two e same is_of =
      subst (λ (e : FileExtraction H R). IsOfFile form two e) same is_of

  by_bits : (one : Accepts form.fronts file challenge reply)
      (two : Accepts form.fronts file other second) (test : Bool)
      → same_bits (bits_of one) (bits_of two) ≡ test → extraction ≡ Same
      → bits_of one ≡ bits_of two
  by_bits one two true test same = same_bits_are (bits_of one) (bits_of two) test
  by_bits one two false test same =
      let ready : accepted_of {V = Refusal R} (bits_of one) (bits_of two) ≡ ends.Ready =
      ap (of_test {V = Refusal R}) test in
      let both : TwoAccepted form.fronts file challenge reply other second = record {
        first = one;
        second = two;
        differ = bits_differ {V = Refusal R} (bits_of one) (bits_of two) ready;
      } in
      absurd (not_different both extraction same (opens_two both))

  pub same_found : extraction ≡ Same → SameAccepted form.fronts file challenge reply other second
  same_found same =
      let both = both_of (same_accepted coming.ahead.finding same) in
      record {
        first = both.0;
        second = both.1;
        same = by_bits both.0 both.1 (same_bits (bits_of both.0) (bits_of both.1)) refl same;
      }

  pub same_shown : SameAccepted form.fronts file challenge reply other second → extraction ≡ Same
  same_shown both =
      let give = accepted_give form is file challenge reply other second both.first both.second in
      ap found (give.2.finding
      ∙ accepted_same {V = Refusal R} (bits_of both.first) (bits_of both.second) both.same)

  -- ---- by what is found

  given_is : (known : FileBase H) (gathered : Result (List LaneBids) TwoOpeningsSeen)
      → IsFound {V = Refusal R} (given_by (opened_by known) gathered)
  given_is known (Ok lanes) = tt
  given_is known (Err clash) = tt

  by_finding : (base : Option (FileBase H)) (finding : Finding (Refusal R))
      (gathered : Result (List LaneBids) TwoOpeningsSeen)
      → (BothAreAccepted finding → IsSome base)
      → IsFoundBy (λ (refusal : Refusal R). refusal) finding
      (found_by opened_by base finding gathered)
  by_finding base (ends.Refused of_second refusal) gathered known = refl
  by_finding base ends.Same gathered known = refl
  by_finding (Some base) ends.Ready gathered known = given_is base gathered
  by_finding None ends.Ready gathered known = let some = known tt in cc

  -- the base is known where both replies are accepted
  base_known : BothAreAccepted coming.ahead.finding → IsSome coming.base
  base_known are =
      let both = both_of are in
      let give = accepted_give form is file challenge reply other second both.0 both.1 in
      subst IsSome (sym give.1) refl

  pub found_by_finding : IsFoundBy (λ (refusal : Refusal R). refusal) coming.ahead.finding
      extraction
  found_by_finding =
      by_finding coming.base coming.ahead.finding
      (gathered_after (λ (known : FileBase H). known.base.statement) coming.base
      coming.ahead.lanes) base_known

pub accepted_open : {F H R : Type 0} (form : Form F H R) → IsForm form → AcceptedOpen form
accepted_open form is file challenge reply other second two =
    opens_two form is file challenge reply other second two

pub only_accepted_open_file : {F H R : Type 0} (form : Form F H R) → IsForm form
    → OnlyAcceptedOpenFile form
only_accepted_open_file form is file challenge reply other second =
    only_two form is file challenge reply other second

pub same_is_found_of_file : {F H R : Type 0} (form : Form F H R) → IsForm form
    → SameIsFoundOfFile form
same_is_found_of_file form is file challenge reply other second = (
  same_found form is file challenge reply other second,
  same_shown form is file challenge reply other second,
)

pub extracts_by_finding : {F H R : Type 0} (form : Form F H R) → IsForm form
    → ExtractsByFinding form
extracts_by_finding form is file challenge reply other second =
    found_by_finding form is file challenge reply other second
