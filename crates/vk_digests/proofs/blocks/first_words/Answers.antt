use Rattle.std.proofs.Common.{◌≡◌, ◌+◌, length, take, slice_index, refl, sym, ap, ◌∙◌, arith, rules, add-one}
use Rattle.std.proofs.lemmas.List.{length-map, take_all, take_more_set}
use Rattle.sha2.specs.Sha256.{first_words}
use Rattle.vk_digests.specs.Lanes.{lane}
use Rattle.vk_digests.proofs.Lanes.{lane_set}
use Rattle.vk_digests.proofs.PaddedMessages.{first_words_of}
use Rattle.vk_digests.proofs.blocks.first_words.Goals as goal

pub load-init : goal.load-init
unfolding first_words
load-init c = record { size = refl; loaded = λ j lt. refl }

pub load-preserved : goal.load-preserved
unfolding first_words
load-preserved c =
    let i = c.load.i in
    record {
      size = search rules;
      loaded = λ j lt.
          let words = lane j c.load.words in
          let word = slice_index c.words_at.result j in
          let sixteen : length words ≡ 16 = rw length-map c.load.invariant.size in
          ap (take (i + 1)) (lane_set j i c.load.words c.words_at.result)
          ∙ take_more_set words i word (omega arith)
          ∙ rw (add-one, c.load.invariant.loaded j lt, c.words_at.ensures.words j lt) refl;
    }

pub returns : goal.returns
returns c = λ j lt sized.
    let all : c.load.i ≡ 16 = omega arith in
    let words = lane j c.load.words in
    let sixteen : length words ≡ 16 = rw length-map c.load.invariant.size in
    sym (take_all 16 words (omega arith)) ∙ (rw all at (c.load.invariant.loaded j lt)
    ∙ sym (first_words_of _ sized))
