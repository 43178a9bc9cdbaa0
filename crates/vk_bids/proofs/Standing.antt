-- A digest of a wire of a lane stands in the file: in the lines of a seal, or of the lane.
use Rattle.std.proofs.Common.{◌≡◌, ℕ, zero, suc, ◌+◌, ◌-◌, ◌<◌, ◌≤◌, Bool, true, false, List, [], ◌∷◌, ◌++◌, length, get_or, refl, sym, ap, subst, ◌∙◌, arith, length-append}
use Rattle.std.specs.Prelude.{codes, decimal, slice_index_or}
use Rattle.std.specs.List.{flat_map}
use Rattle.std.proofs.lemmas.List.{append_assoc, append-nil, get_or-append_right, length-map}
use Rattle.std.proofs.lemmas.Bool.{cases_lt}
use Rattle.std.proofs.lemmas.List.Elements.{All-contains}
use mathlib.Core.Logic.{⊎_elim}
use Rattle.vk_commit.specs.Commitment.{TwoOpeningsSeen}
use Rattle.vk_commit.specs.declared.place.Place.{Place}
use Rattle.vk_lines.specs.Forms.{line, numbered_text, spaced}
use Rattle.vk_lines.specs.Tokens.{hex_text}
use Rattle.vk_wire.specs.Reads.{entry_digest}
use Rattle.vk_wire.specs.declared.wire.WireCom.{WireCom}
use Rattle.vk_wire.specs.declared.wire.Shown.{Shown}
use Rattle.vk_wire.specs.declared.wire.Shown.TheVariants.{Half, Whole, Spent}
use Rattle.vk_row.specs.declared.case.LaneCase.{LaneCase}
use Rattle.vk_row.specs.Lanes.{no_digests, nothing_shown, place_in}
use Rattle.vk_extractor.specs.FirstClash.{IsClash}
use Rattle.vk_board.specs.declared.board.SealLines.{SealLines}
use Rattle.vk_board.specs.declared.board.LaneLines.{LaneLines}
use Rattle.vk_board.specs.Texts.{com_text, lane_text, lanes_text, posted_text, seal_lines_text}
use Rattle.vk_judge.specs.Statement.{StatementValue, IsStatement}
use Rattle.vk_judge.specs.declared.stage.TwoLane.{TwoLane}
use Rattle.vk_judge.specs.Acceptance.{AcceptsBehind, file_text, no_lines}
use Rattle.vk_judge.specs.Behind.{case_of, input_coms}
use Rattle.vk_judge.specs.TwoValues.{case_behind}
use Rattle.vk_judge.proofs.Counts.{seals_have}
use Rattle.vk_bids.specs.Gathering.{lane_shown}
use Rattle.vk_bids.specs.Headline.{IsFirstClashOf, differing}
use Rattle.vk_bids.specs.Soundness.{StandsInFile}
use Rattle.vk_bids.proofs.Gathered.{each_differing}
use Rattle.vk_bids.proofs.Seals.{no_seal, seal_commits}

-- ---- parts of texts

stands_first : (part after : List ℕ) → StandsInFile part (part ++ after)
stands_first part after = record { before = []; after = after; file_is = refl }

stands_whole : (part : List ℕ) → StandsInFile part part
stands_whole part = record { before = []; after = []; file_is = sym (append-nil part) }

stands_before : (part text more : List ℕ) → StandsInFile part text
    → StandsInFile part (text ++ more)
stands_before part text more stands = record {
  before = stands.before;
  after = stands.after ++ more;
  file_is = ap (λ t. t ++ more) stands.file_is
      ∙ append_assoc stands.before (part ++ stands.after) more
      ∙ ap (λ t. stands.before ++ t) (append_assoc part stands.after more);
}

stands_behind : (part front text : List ℕ) → StandsInFile part text
    → StandsInFile part (front ++ text)
stands_behind part front text stands = record {
  before = front ++ stands.before;
  after = stands.after;
  file_is = ap (λ t. front ++ t) stands.file_is
      ∙ sym (append_assoc front stands.before (part ++ stands.after));
}

-- in the text of one of several things
each_stands : {X : Type 0} (f : X → List ℕ) (part : List ℕ) (xs : List X) (index : ℕ) (default : X)
    → index < length xs → StandsInFile part (f (get_or xs index default))
    → StandsInFile part (flat_map f xs)
each_stands f part [] index default within stands = absurd (omega arith)
each_stands f part (x ∷ xs) zero default within stands =
    stands_before part (f x) (flat_map f xs) stands
each_stands f part (x ∷ xs) (suc index) default within stands =
    stands_behind part (f x) (flat_map f xs)
    (each_stands f part xs index default (omega arith) stands)

numbered_stands : {X : Type 0} (f : ℕ → X → List ℕ) (part : List ℕ) (number : ℕ) (xs : List X)
    (index : ℕ) (default : X)
    → index < length xs → StandsInFile part (f (number + index) (get_or xs index default))
    → StandsInFile part (numbered_text f number xs)
numbered_stands f part number [] index default within stands = absurd (omega arith)
numbered_stands f part number (x ∷ xs) zero default within stands =
    let here : number + 0 ≡ number = omega arith in
    stands_before part (f number x) (numbered_text f (number + 1) xs)
    (subst (λ n. StandsInFile part (f n x)) here stands)
numbered_stands f part number (x ∷ xs) (suc index) default within stands =
    let next : number + suc index ≡ number + 1 + index = omega arith in
    stands_behind part (f number x) (numbered_text f (number + 1) xs)
    (numbered_stands f part (number + 1) xs index default (omega arith)
    (subst (λ n. StandsInFile part (f n (get_or xs index default))) next stands))

-- ---- lines of digests

abbrev digest_text : WireCom → Bool → List ℕ
digest_text digests second = hex_text (entry_digest digests second)

-- either digest stands in a line of both
entry_stands : (word : List ℕ) (digests : WireCom) (second : Bool)
    → StandsInFile (digest_text digests second) (line (com_text word digests))
entry_stands word digests false =
    let first = hex_text digests.first in
    let rest = 32 ∷ hex_text digests.second in
    stands_before first (com_text word digests) (10 ∷ [])
    (stands_behind first word (32 ∷ (first ++ rest))
    (stands_behind first (32 ∷ []) (first ++ rest) (stands_first first rest)))
entry_stands word digests true =
    let first = hex_text digests.first in
    let second = hex_text digests.second in
    stands_before second (com_text word digests) (10 ∷ [])
    (stands_behind second word (32 ∷ (first ++ (32 ∷ second)))
    (stands_behind second (32 ∷ []) (first ++ (32 ∷ second))
    (stands_behind second first (32 ∷ second)
    (stands_behind second (32 ∷ []) second (stands_whole second)))))

coms_stand : (word : List ℕ) (coms : List WireCom) (index : ℕ) (second : Bool)
    → index < length coms
    → StandsInFile (digest_text (get_or coms index no_digests) second)
    (flat_map (λ digests. line (com_text word digests)) coms)
coms_stand word coms index second within =
    each_stands (λ digests. line (com_text word digests))
    (digest_text (get_or coms index no_digests) second) coms index no_digests within
    (entry_stands word (get_or coms index no_digests) second)

seal_stands : (seal : SealLines) (index : ℕ) (second : Bool) → index < length seal.coms
    → StandsInFile (digest_text (get_or seal.coms index no_digests) second) (seal_lines_text seal)
unfolding seal_lines_text
seal_stands seal index second within =
    stands_behind (digest_text (get_or seal.coms index no_digests) second)
    (line (spaced (codes "seal" ∷ decimal seal.seat ∷ [])))
    (flat_map (λ digests. line (com_text (codes "x") digests)) seal.coms)
    (coms_stand (codes "x") seal.coms index second within)

lane_stands : (number : ℕ) (lines : LaneLines) (wire : ℕ) (second : Bool)
    → wire < length lines.coms
    → StandsInFile (digest_text (get_or lines.coms wire no_digests) second) (lane_text number lines)
unfolding lane_text
lane_stands number lines wire second within =
    let part = digest_text (get_or lines.coms wire no_digests) second in
    let coms = flat_map (λ digests. line (com_text (codes "w") digests)) lines.coms in
    let posted = flat_map (λ number. line (posted_text number)) lines.posted in
    stands_behind part (line (spaced (codes "lane" ∷ decimal number ∷ []))) (coms ++ posted)
    (stands_before part coms posted (coms_stand (codes "w") lines.coms wire second within))

-- ---- a lane of a file

module _ (s : StatementValue) (head : List ℕ) (lines : List LaneLines) (number : ℕ) (is : IsStatement s) (one_each : length lines ≡ s.lanes) (some : 1 ≤ number)
    (last : number ≤ s.lanes) where
  abbrev here : LaneLines
  here = slice_index_or lines (number - 1) no_lines

  abbrev seals_text : List ℕ
  seals_text = flat_map seal_lines_text s.seals

  abbrev whole_text : List ℕ
  whole_text = file_text (head ++ seals_text) lines

  abbrev Stands : WireCom → Bool → Type 0
  Stands digests second = StandsInFile (digest_text digests second) whole_text

  in_seals : (wire : ℕ) (second : Bool) → wire < length s.seals
      → Stands (slice_index_or (case_of s number here).coms wire no_digests) second
  in_seals wire second lt =
      let seal = get_or s.seals wire no_seal in
      let digests = get_or seal.coms (number - 1) no_digests in
      let part = digest_text digests second in
      let has : number - 1 < length seal.coms =
      seals_have s (number - 1) is (omega arith) wire no_seal lt in
      subst (λ d. Stands d second) (sym (seal_commits s number wire here lt))
      (stands_before part (head ++ seals_text) _
      (stands_behind part head seals_text
      (each_stands seal_lines_text part s.seals wire no_seal lt
      (seal_stands seal (number - 1) second has))))

  in_lane : (wire : ℕ) (second : Bool) → length s.seals ≤ wire
      → wire < length (case_of s number here).coms
      → Stands (slice_index_or (case_of s number here).coms wire no_digests) second
  in_lane wire second past within =
      let inputs = input_coms (number - 1) s.seals in
      let count : length inputs ≡ length s.seals = length-map s.seals _ in
      let at : slice_index_or (case_of s number here).coms wire no_digests
      ≡ slice_index_or here.coms (wire - length s.seals) no_digests =
      get_or-append_right inputs here.coms (length s.seals) wire no_digests count past in
      let digests = get_or here.coms (wire - length s.seals) no_digests in
      let part = digest_text digests second in
      let numbers : 1 + (number - 1) ≡ number = omega arith in
      let lt : wire - length s.seals < length here.coms =
      omega (arith, length-append inputs here.coms, count) in
      subst (λ d. Stands d second) (sym at)
      (stands_behind part (head ++ seals_text) _
      (stands_before part (lanes_text 1 lines) _
      (numbered_stands lane_text part 1 lines (number - 1) no_lines (omega (arith, one_each))
      (lane_stands (1 + (number - 1)) here (wire - length s.seals) second lt))))

  -- either digest of a wire of the lane of that number
  pub digest_stands : (wire : ℕ) (second : Bool) → wire < length (case_of s number here).coms
      → Stands (slice_index_or (case_of s number here).coms wire no_digests) second
  digest_stands wire second within = ⊎_elim (λ lt. in_seals wire second lt)
      (λ past. in_lane wire second past within) (cases_lt wire (length s.seals))

-- ---- a clash of two replies

-- the digest that is opened twice is one of the wire's
clash_digest : (place : Place) (digests : WireCom) (zero_shown one_shown : Shown)
    (two : TwoOpeningsSeen) → IsClash place digests zero_shown one_shown two
    → (second : Bool) × (two.digest ≡ entry_digest digests second)
clash_digest place digests (Whole first other) (Spent second opening) two is =
    (second, ap (λ (t : TwoOpeningsSeen). t.digest) is.0)
clash_digest place digests (Whole first other) (Half opening) two is = absurd is
clash_digest place digests (Whole first other) (Whole one another) two is = absurd is
clash_digest place digests (Half opening) shown two is = absurd is
clash_digest place digests (Spent second opening) shown two is = absurd is

-- the digest of a clash of a reply that is accepted, behind a front whose text ends with the seals,
-- stands in the file
pub clash_stands : {s : StatementValue} {front file challenge reply : List ℕ}
    (accepted : AcceptsBehind s front file challenge reply) → IsStatement s → (head : List ℕ)
    → front ≡ head ++ flat_map seal_lines_text s.seals
    → (at : ℕ → TwoLane) → ((number : ℕ) → (at number).case ≡ case_behind accepted number)
    → (bits : List Bool) (id : List ℕ) (clash : TwoOpeningsSeen)
    → IsFirstClashOf at (differing 1 accepted.challenge.bits bits) id clash
    → StandsInFile (hex_text clash.digest) file
clash_stands {s} {front} {file} accepted is head front_is at cases bits id clash found =
    let number = found.number in
    let case = case_behind accepted number in
    let first_bits = accepted.challenge.bits in
    let numbers = differing 1 first_bits bits in
    let P : ℕ → Type 0 = λ n. (1 ≤ n) × (n < 1 + length first_bits) in
    let counted : P number = All-contains P numbers number
    (each_differing P 1 first_bits bits (λ n from below. (from, below))) found.differs in
    let W : LaneCase → Type 0 = λ c. found.wire < length c.coms in
    let within : found.wire < length case.coms = subst W (cases number) found.first.within in
    let digests = slice_index_or case.coms found.wire no_digests in
    let zero_shown = slice_index_or (lane_shown false (at number)) found.wire nothing_shown in
    let one_shown = slice_index_or (lane_shown true (at number)) found.wire nothing_shown in
    let D : LaneCase → Type 0 = λ c. (second : Bool) × (clash.digest
    ≡ entry_digest (slice_index_or c.coms found.wire no_digests) second) in
    let digest = subst D (cases number) (clash_digest (place_in (at number).case found.wire)
    (slice_index_or (at number).case.coms found.wire no_digests) zero_shown one_shown clash
    found.first.clash) in
    let F : List ℕ → Type 0 = λ text. StandsInFile (hex_text clash.digest) text in
    let stands = digest_stands s head accepted.lines number is accepted.one_each counted.0
    (omega (arith, counted.1, accepted.one_bit_each)) found.wire digest.0 within in
    subst F (sym (accepted.file_is.0 ∙ ap (λ text. file_text text accepted.lines) front_is))
    (subst (λ d. StandsInFile (hex_text d)
    (file_text (head ++ flat_map seal_lines_text s.seals) accepted.lines)) (sym digest.1) stands)
