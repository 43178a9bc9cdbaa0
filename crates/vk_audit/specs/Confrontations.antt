-- What is said of what a bidder's secret comes to against two replies to a board.
use Rattle.std.specs.Prelude.{Result}
use Rattle.vk_io.specs.Files.{Files}
use Rattle.vk_bids.specs.declared.confrontation.Confrontation.{Confrontation}
use Rattle.vk_bids.specs.declared.confrontation.Confrontation.TheVariants.{Refused, Same, Malformed, NoSeal, Mismatch, Clash, Held}
use Rattle.vk_bids.specs.declared.confrontation.ConfrontErr.{ConfrontErr}
use Rattle.vk_bids.specs.declared.confrontation.ConfrontErr.TheVariants.{Unread, MissingSecret, TooLongSecret}
use Rattle.vk_bids.specs.Confrontation.{confrontation_on}
use Rattle.vk_bids.specs.ConfrontTexts.{no_seal_line, mismatch_line, held_line}
use Rattle.vk_bids.specs.Texts.{clash_text}
use Rattle.vk_words.specs.Names.{ConfrontWords}
use Rattle.vk_effect.specs.Effects.{SaidValue}
use Rattle.vk_effect.specs.NamedFiles.{malformed_said, missing_said, too_long_said}
use Rattle.vk_audit.specs.Verdicts.{IsOfFile, answer_said, judged_said, name_of, same_said, unread_said}

-- the verdict on a reply that isn't accepted, or what the secret comes to against two accepted
-- replies
abbrev pub confrontation_said : ConfrontWords → Confrontation → SaidValue
confrontation_said names (Refused second verdict) =
    judged_said (name_of names.replies) second verdict
confrontation_said names Same = same_said
confrontation_said names (Malformed line) = malformed_said names.secret line
confrontation_said names (NoSeal seat) = record { status = 8; text = no_seal_line seat }
confrontation_said names (Mismatch mismatch) = record { status = 8; text = mismatch_line mismatch }
confrontation_said names (Clash two) = record { status = 3; text = clash_text two }
confrontation_said names (Held seat) = record { status = 0; text = held_line seat }

-- what names no file: all that comes after both replies are accepted, but that the secret's file is
-- none
abbrev pub NamesNoFile : Confrontation → Type 0
NamesNoFile (Refused second verdict) = ⊥
NamesNoFile Same = Unit {0}
NamesNoFile (Malformed line) = ⊥
NamesNoFile (NoSeal seat) = Unit {0}
NamesNoFile (Mismatch mismatch) = Unit {0}
NamesNoFile (Clash two) = Unit {0}
NamesNoFile (Held seat) = Unit {0}

-- ---- files that give no confrontation

-- a file is missing or too long
abbrev pub IsOfNamedFile : ConfrontErr → Type 0
IsOfNamedFile (Unread fault) = IsOfFile fault
IsOfNamedFile MissingSecret = Unit {0}
IsOfNamedFile TooLongSecret = Unit {0}

-- what is said of the first file that is missing or too long
abbrev pub confront_unread_said : ConfrontWords → ConfrontErr → SaidValue
confront_unread_said names (Unread fault) = unread_said (name_of names.replies) fault
confront_unread_said names MissingSecret = missing_said names.secret
confront_unread_said names TooLongSecret = too_long_said names.secret

-- what the named files come to
abbrev pub confrontation_in : Files → ConfrontWords → Result Confrontation ConfrontErr
confrontation_in files names =
    let replies = names.replies in
    confrontation_on files replies.board replies.first.challenge replies.first.reply
    replies.second.challenge replies.second.reply names.secret

-- what `confront` says
abbrev pub confront_said : Files → ConfrontWords → SaidValue
confront_said files names = answer_said (confrontation_said names) (confront_unread_said names)
    (confrontation_in files names)
