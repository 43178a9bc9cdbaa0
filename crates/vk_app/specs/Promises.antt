-- What `run` promises, one record for each family of commands, over files and a ledger that are
-- modelled.
use Rattle.std.specs.Prelude.{◌≡◌, ◌≢◌, ◌⊎◌, ℕ, ◌^◌, ◌<◌, ◌≤◌, ◌||◌, Bool, true, false, if◌then◌else◌, List, [], ◌∷◌, ◌++◌, codes, length, Option, Some, None, IfSome, Result, Ok, Err}
use Rattle.std.specs.FinMap.{get}
use Rattle.std.specs.List.{AllByRecursion}
use Rattle.vk_io.specs.Files.{Files, Modelled}
use Rattle.vk_io.specs.declared.errors.OutsideErr.{OutsideErr}
use Rattle.vk_keeper.specs.Ledgers.{Ledger}
use Rattle.vk_words.specs.Commands.{CommandWords, Audit, Claim, House, command_words}
use Rattle.vk_words.specs.Commands as commands
use Rattle.vk_words.specs.Audits as audits
use Rattle.vk_words.specs.Claims as claims
use Rattle.vk_words.specs.Names.{ConfrontWords, ExtractWords, VerifyWords, is_name}
use Rattle.vk_words.specs.Orders.{HouseWords}
use Rattle.vk_effect.specs.Effects.{IsSaid, Outside, SaidValue, outside, stores}
use Rattle.vk_effect.specs.Ends.{Done, Stopped}
use Rattle.vk_effect.specs.NamedFiles.{missing_said, too_long_said}
use Rattle.vk_board.specs.declared.front.Front.{Front}
use Rattle.vk_reply.specs.declared.challenge.Challenge.{Challenge}
use Rattle.vk_reply.specs.Texts.{challenge_text}
use Rattle.vk_bids.specs.Headline.{differing}
use Rattle.vk_bids.specs.Soundness.{BeginsWithFront, TellsBids, TellsTwoOpenings}
use Rattle.vk_audit.specs.Inputs.{extract_inputs}
use Rattle.vk_audit.specs.Answers.{TellsConfrontation, TellsExtraction, TellsReport, TellsVerdict}
use Rattle.vk_audit.specs.Statuses.{AcceptsTwoFiles, BindsSecret, IsExtracted, IsReported, IsSame, IsVerified}
use Rattle.vk_claims.specs.Statuses.{AcceptsTwoClaims, IsClaimExtracted, IsClaimVerified, IsSameClaim, TellsClaimExtraction, TellsClaimVerdict}
use Rattle.vk_claim.specs.declared.front.ClaimFront.{ClaimFront}
use Rattle.vk_claims.specs.Soundness.{BeginsWithClaim, TellsValues}
use Rattle.vk_claims.specs.ClaimSamples.{OfSomeMatching}
use Rattle.vk_auctioneer.specs.Leaving.{LeavesFiles, LeavesStopped}
use Rattle.vk_ceremony.specs.Acts.{HouseAct, PerformsAll}
use Rattle.vk_lines.specs.Forms.{fault_line}
use Rattle.vk_ceremony.specs.Ceremonies.{Ceremony, ceremony_on, closing_said, goes_on, is_refusal}
use Rattle.vk_ceremony.specs.Forms.{script_table}
use Rattle.vk_ceremony.specs.Leaving.{CeremonyLeaves, CeremonyStops}
use Rattle.vk_ceremony.specs.Runs.{orders_in}
use Rattle.vk_app.specs.Auctions.{CommandIsDone, Serves}
use Rattle.vk_app.specs.Commands.{script_in, usage_said}

-- where files are modelled, this is promised of the words and the status, and of the text before
-- and after
abbrev pub OverFiles : (Files → List (List ℕ) → ℕ → Option (List ℕ) → Option (List ℕ) → Type 0)
    → Option Files → List (List ℕ) → (status : ℕ) → (old new : Option (List ℕ)) → Type 0
OverFiles Promised held words status old new =
    IfSome held (λ files. Promised files words status old new)

-- ---- the headline

-- what was printed, after what was there before, is such a text
abbrev pub Prints : (List ℕ → Type 0) → (old new : Option (List ℕ)) → Type 0
Prints IsSuch = Modelled (λ before after. (text : List ℕ) × (after ≡ before ++ text) × IsSuch text)

-- a file begins with this front, and two other files are challenges. With status 0, what was
-- printed is told of the front and of just the lanes whose bits in the challenges differ. With
-- status 3 it is two openings of one commitment of the auction, whose digest stands in the file
pub record PrintsOf {F : Type 0} (Begins : List ℕ → F → Type 0) (id_of : F → List ℕ)
    (Tells : F → (lanes text : List ℕ) → Type 0) (files : Files)
    (name challenge other : List ℕ) (status : ℕ) (old new : Option (List ℕ)) : Type 0 where
  pub file : List ℕ
  pub front : F
  pub first : Challenge
  pub second : Challenge
  pub file_is : get files name ≡ Some file
  pub begins : Begins file front
  pub first_is : get files challenge ≡ Some (challenge_text first)
  pub second_is : get files other ≡ Some (challenge_text second)
  pub found : status ≡ 0 → Prints (Tells front (differing 1 first.bits second.bits)) old new
  pub clash : status ≡ 3 → Prints (TellsTwoOpenings file (id_of front)) old new

-- soundness: where `extract` ends with status 0 or 3, whatever the files are and whoever made them,
-- what it printed is true of the board. With status 0 that is bids of those lanes: they are below
-- 2^width, their printed halves open the board's digests in that lane, and the sale that they make
-- under the board's reserve is the one that it publishes
abbrev pub ExtractIsSound : Files → List (List ℕ) → ℕ → Option (List ℕ) → Option (List ℕ) → Type 0
ExtractIsSound files words status old new =
    (board challenge reply other second : List ℕ)
    → words ≡ codes "extract" ∷ board ∷ challenge ∷ reply ∷ other ∷ second ∷ []
    → (status ≡ 0) ⊎ (status ≡ 3) → PrintsOf BeginsWithFront (λ front. front.head.auction) TellsBids
    files board challenge other status old new

-- completeness: where the words are this one and five names, each of 1 to 255 bytes, and both
-- replies are accepted for different challenges, the status is 0 or 3
abbrev pub EndsWhereAccepted : (verb : List ℕ) → (ExtractWords → Type 0) → List (List ℕ)
    → (status : ℕ) → Type 0
EndsWhereAccepted verb Accepts words status =
    (names : ExtractWords) → words ≡ verb ∷ extract_inputs names
    → AllByRecursion (λ name. is_name name ≡ true) (extract_inputs names)
    → Accepts names → status ≢ 6 → status ≢ 9 → (status ≡ 0) ⊎ (status ≡ 3)

abbrev pub ExtractIsComplete : Files → List (List ℕ) → (status : ℕ) → (old new : Option (List ℕ))
    → Type 0
ExtractIsComplete files words status old new =
    EndsWhereAccepted (codes "extract") (AcceptsTwoFiles files) words status

-- of a claim file that is values of those lanes, whose printed halves open the file's digests in
-- that lane, and of which its claim holds
abbrev pub ClaimExtractIsSound : Files → List (List ℕ) → (status : ℕ)
    → (old new : Option (List ℕ)) → Type 0
ClaimExtractIsSound files words status old new =
    (claim challenge reply other second : List ℕ)
    → words ≡ codes "claim-extract" ∷ claim ∷ challenge ∷ reply ∷ other ∷ second ∷ []
    → (status ≡ 0) ⊎ (status ≡ 3) → PrintsOf BeginsWithClaim (λ front. front.head.auction)
    TellsValues files claim challenge other status old new

abbrev pub ClaimExtractIsComplete : Files → List (List ℕ) → (status : ℕ)
    → (old new : Option (List ℕ)) → Type 0
ClaimExtractIsComplete files words status old new =
    EndsWhereAccepted (codes "claim-extract") (AcceptsTwoClaims files) words status

-- of two replies that are accepted, a command that extracts puts what is extracted of them; and it
-- puts such of no others
pub record PutsExactly (words : List (List ℕ)) (status : ℕ) (command : ExtractWords → CommandWords)
    (Accepts : ExtractWords → Type 0) (Puts : (names : ExtractWords) → Accepts names → Type 0)
    : Type 0 where
  pub found : (names : ExtractWords) → command_words words ≡ Some (command names)
      → (accepted : Accepts names) → status ≢ 6 → status ≢ 9 → Puts names accepted
  pub only : (names : ExtractWords) → command_words words ≡ Some (command names)
      → (status ≡ 0) ⊎ (status ≡ 3) → Accepts names

-- of two replies that are accepted with one board for different challenges, `extract` puts the bids
-- of each lane whose bits differ: they are below 2^width, open the lane's seals, and have the
-- Vickrey outcome that the board publishes, which is the published sale under the board's reserve,
-- 0 in version 1. Or it puts two openings of one commitment. It puts such of no others
abbrev pub Headline : Files → List (List ℕ) → (status : ℕ) → (old new : Option (List ℕ)) → Type 0
Headline files words status old new =
    PutsExactly words status (λ names. Audit (audits.Extract names)) (AcceptsTwoFiles files)
    (λ names accepted. IsExtracted accepted.two status old new)

-- of two replies that are accepted with one claim file for different challenges, `claim-extract`
-- puts the values of each lane whose bits differ: they open the lane's seals, and the file's claim
-- holds of them. Or it puts two openings of one commitment. It puts such of no others
abbrev pub ClaimHeadline : Files → List (List ℕ) → (status : ℕ) → (old new : Option (List ℕ))
    → Type 0
ClaimHeadline files words status old new =
    PutsExactly words status (λ names. Claim (claims.Extract names)) (AcceptsTwoClaims files)
    (λ names accepted. IsClaimExtracted accepted.two status old new)

-- ---- the commands of an auditor, and those on claims

-- what a command that reads files says with that status: what the status means, whichever it is;
-- and at every end what holds of the files, or which of them is missing or too long
pub record Says (status : ℕ) (Means Tells : Type 0) : Type 0 where
  pub means : Means
  pub tells : status ≢ 6 → status ≢ 9 → Tells

pub record Audits (files : Files) (words : List (List ℕ)) (status : ℕ)
    (old new : Option (List ℕ)) : Type 0 where
  -- status 0 is that the reply is accepted. Every end says the verdict that holds
  pub verify : (names : VerifyWords) → command_words words ≡ Some (Audit (audits.Verify names))
      → Says status (IsVerified files names status) (TellsVerdict files names status old new)
  -- status 7 is that both replies are accepted and the challenges don't differ. Every end says the
  -- bids, a clash, or the verdict on a reply that isn't accepted
  pub extract : (names : ExtractWords) → command_words words ≡ Some (Audit (audits.Extract names))
      → Says status (IsSame files names status) (TellsExtraction files names status old new)
  -- status 0 is that the secret has the board's seal of its seat, and that the replies open just
  -- its halves. Where the seal is the secret's and they open another, two openings of one
  -- commitment are put. Every end says what holds; where the replies themselves open a commitment
  -- with two values, that
  pub confront : (names : ConfrontWords) → command_words words ≡ Some (Audit (audits.Confront names))
      → Says status (BindsSecret files names status old new)
      (TellsConfrontation files names status old new)
  -- status 0 is that the file is a board whose price and winner may stand, and what it publishes is
  -- put. Every end says that, or the first fault of the file
  pub report : (board : List ℕ) → command_words words ≡ Some (Audit (audits.Report board))
      → Says status (IsReported files board status old new)
      (TellsReport files board status old new)

pub record Claims (files : Files) (words : List (List ℕ)) (status : ℕ)
    (old new : Option (List ℕ)) : Type 0 where
  -- status 0 is that the reply is accepted. Every end says the verdict that holds
  pub verify : (names : VerifyWords) → command_words words ≡ Some (Claim (claims.Verify names))
      → Says status (IsClaimVerified files names status)
      (TellsClaimVerdict files names status old new)
  -- status 7 is that both replies are accepted and the challenges don't differ. Every end says the
  -- values, a clash, or the verdict on a reply that isn't accepted
  pub extract : (names : ExtractWords) → command_words words ≡ Some (Claim (claims.Extract names))
      → Says status (IsSameClaim files names status)
      (TellsClaimExtraction files names status old new)

-- which stable matching `claim-sample matching` publishes is free, and nothing else is. At its end
-- it did all that one of them comes to; stopped, nothing changed, or it was stopped doing that
pub record SamplesMatching (number status : ℕ) (old new : Outside) : Type 0 where
  pub done : status ≢ 6 → status ≢ 9
      → OfSomeMatching old.files old.ledger number (λ effect. Done status effect old new)
  pub stopped : (status ≡ 6) ⊎ (status ≡ 9)
      → (new ≡ old) ⊎ OfSomeMatching old.files old.ledger number (λ effect. Stopped effect old new)

-- ---- the house's

-- whatever the words and the status, what was done at the house is done command by command, and
-- each keeps its promises. A single command that came to its end is one of these, and what it says
-- was put
pub record KeepsHouse (files : Files) (ledger : Ledger) (words : List (List ℕ)) (status : ℕ)
    (held : Option Files) (kept : Option Ledger) (old new : Option (List ℕ)) : Type 0 where
  pub serves : Serves words files ledger held kept
  pub command : (order : HouseWords) → command_words words ≡ Some (House order) → status ≢ 6
      → status ≢ 9
      → CommandIsDone order files ledger held kept status old new

-- ---- a ceremony's

-- what is said behind these acts for the ceremony itself, where it is told whether one was refused
-- before them: an act that none follows ends it with its status, and nothing more is said. Behind
-- all others it is what is said by whether one of them was refused
abbrev pub closing_behind : (Bool → SaidValue) → Bool → List HouseAct → SaidValue
closing_behind closing refused [] = closing refused
closing_behind closing refused (act ∷ acts) =
    if goes_on act.said.status
    then closing_behind closing (refused || is_refusal act.said.status) acts
    else record { status = act.said.status; text = [] }

-- it came to its end: its commands were done one after another up to the first that ends it, what
-- they say was put, and then what is said for the script itself, of which this is the status. A
-- script that isn't held, or is too long, is said to be so. Of another its fault line by its table
-- is said, or that it has none, and then whether one of its commands that were done was refused; or
-- the last of them ended it with its status, and nothing more is said
pub record CeremonyIsDone (script : List ℕ) (files : Files) (ledger : Ledger) (status : ℕ)
    (held : Option Files) (kept : Option Ledger) (old new : Option (List ℕ)) : Type 0 where
  pub whole : Ceremony
  pub is : ceremony_on (Some files) (Some ledger) script ≡ Some whole
  pub status_is : status ≡ whole.closing.status
  pub acts : PerformsAll (orders_in files script) files ledger whole.closing.text old
      (outside (stores held kept) new)
  pub missing : get files script ≡ None → IsSaid (missing_said script) status old new
  pub too_long : (file : List ℕ) → get files script ≡ Some file → 2 ^ 30 < length file
      → IsSaid (too_long_said script) status old new
  pub closing : (file : List ℕ) → get files script ≡ Some file → length file ≤ 2 ^ 30
      → whole.closing ≡ closing_behind
      (closing_said script (fault_line (script_table script) file)) false acts.acts

abbrev pub HoldsCeremony : Files → Ledger → List (List ℕ) → ℕ → Option Files → Option Ledger
    → Option (List ℕ) → Option (List ℕ) → Type 0
HoldsCeremony files ledger words status held kept old new =
    (script : List ℕ) → command_words words ≡ Some (commands.Ceremony script) → status ≢ 6
    → status ≢ 9 → CeremonyIsDone script files ledger status held kept old new

-- ---- the files, whether or not the keeper is modelled

-- what a single command leaves of files that are modelled, ended with that status: said of the
-- house's
abbrev pub CommandLeaves : Option CommandWords → (status : ℕ) → (held now : Option Files) → Type 0
CommandLeaves (Some (House order)) status held now = Modelled (LeavesFiles order status) held now
CommandLeaves command status held now = Unit {0}

abbrev pub LeavesBy : Option (List ℕ) → Option CommandWords → (status : ℕ)
    → (held now : Option Files) → Type 0
LeavesBy (Some script) command status held now = Modelled (CeremonyLeaves script status) held now
LeavesBy None command status held now = CommandLeaves command status held now

-- the same of whatever words, and of a ceremony command by command: with status 0 a board is that
-- of some auction that is proved with the seed, and a reply is that of some auction that is proved,
-- to the challenge of the named file; both have the id. All other files stay, and with any other
-- status all do
abbrev pub RunLeaves : List (List ℕ) → (status : ℕ) → (held now : Option Files) → Type 0
RunLeaves words status held now =
    LeavesBy (script_in (command_words words)) (command_words words) status held now

-- ---- and those that a stopped run leaves

-- what a single command leaves of files that are modelled, stopped: said of the house's
abbrev pub CommandStops : Option CommandWords → (held now : Option Files) → Type 0
CommandStops (Some (House order)) held now = Modelled (LeavesStopped order) held now
CommandStops command held now = Unit {0}

abbrev pub StopsBy : Option (List ℕ) → Option CommandWords → (held now : Option Files) → Type 0
StopsBy (Some script) command held now = Modelled (CeremonyStops script) held now
StopsBy None command held now = CommandStops command held now

-- the same of whatever words, and of a ceremony command by command, as far as it came. Of the one
-- that was stopped all files stay, or the board that it is to write holds the first bytes, any
-- number of them, of the board of some auction that is proved with the seed; a reply those of the
-- reply of some auction that is proved, to the challenge of the named file
abbrev pub RunStops : List (List ℕ) → (held now : Option Files) → Type 0
RunStops words held now =
    StopsBy (script_in (command_words words)) (command_words words) held now

-- ---- by the answer

-- what a single command leaves, before it prints
abbrev pub CommandLeft : Option CommandWords → Result SaidValue OutsideErr
    → (held now : Option Files) → Type 0
CommandLeft command (Ok said) held now = CommandLeaves command said.status held now
CommandLeft command (Err stop) held now = CommandStops command held now

-- and a command, or what a script says
abbrev pub WorkLeft : Option CommandWords → Result ℕ OutsideErr → (held now : Option Files) → Type 0
WorkLeft command (Ok status) held now = LeavesBy (script_in command) command status held now
WorkLeft command (Err stop) held now = StopsBy (script_in command) command held now

-- ---- words of no form

-- status 2 is that the words are no command, and then the usage line is put
pub record TellsUsage (words : List (List ℕ)) (status : ℕ) (old new : Option (List ℕ)) : Type 0
  where
    pub only : status ≡ 2 → command_words words ≡ None
    pub always : command_words words ≡ None → status ≢ 6 → status ≢ 9
        → IsSaid usage_said status old new
