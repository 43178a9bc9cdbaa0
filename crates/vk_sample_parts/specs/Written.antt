-- The files of a proof in pieces: what is published and the replies lane by lane, each challenge as
-- a whole.
use Rattle.std.specs.Prelude.{ℕ, List, [], ◌∷◌}
use Rattle.vk_io.specs.Writing.{WrittenFile}
use Rattle.vk_reply.specs.declared.challenge.Challenge.{Challenge}
use Rattle.vk_reply.specs.Texts.{challenge_text}
use Rattle.vk_job.specs.Proofs.{ProofValue, file_pieces, reply_pieces_in}
use Rattle.vk_words.specs.Names.{ExtractWords}

-- of a proof behind that text of a head, and of two challenges with the replies to them
abbrev pub written_of : ExtractWords → List ℕ → ProofValue → Challenge → Challenge
    → List WrittenFile
written_of names head proof first second =
    record { name = names.board; pieces = file_pieces head proof }
    ∷ record { name = names.first.challenge; pieces = challenge_text first ∷ [] }
    ∷ record { name = names.first.reply; pieces = reply_pieces_in proof first.bits }
    ∷ record { name = names.second.challenge; pieces = challenge_text second ∷ [] }
    ∷ record { name = names.second.reply; pieces = reply_pieces_in proof second.bits }
    ∷ []
