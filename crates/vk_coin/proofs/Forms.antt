-- Shares and coins are read from their texts alone.
use Rattle.std.proofs.Common.{◌≡◌, ℕ, ◌+◌, ◌^◌, ◌<◌, ◌≤◌, ◌==◌, Bool, true, false, if◌then◌else◌, nat_le, List, [], ◌∷◌, ◌++◌, length, codes, decimal, Option, Some, None, option_map, Result, refl, ap, sym, ◌∙◌, arith}
use Rattle.std.specs.List.{AllByRecursion}
use Rattle.std.proofs.lemmas.Bool.{eq-eqb, eqb-true}
use Rattle.std.proofs.lemmas.List.{length-map}
use Rattle.hex.specs.Hex.{IsBytes}
use Rattle.vk_residue.specs.Steps.{◌>>=◌}
use Rattle.vk_commit.specs.Values.{AreBytes}
use Rattle.vk_lines.specs.Lines.{Rest, line_by}
use Rattle.vk_lines.specs.Forms.{is_plain, line, spaced, EachAfter, IsLine, IsPart, IsToken, IsWhole, numbered_text}
use Rattle.vk_lines.specs.Tokens.{hex_text, id_line, number_token, word_of}
use Rattle.vk_lines.proofs.Words.{decimal_token, fixed_line, from_test, hex_token, id_line_is, meeting_token, number_line_is, three_line, to_test, two_line, InRange}
use Rattle.vk_lines.proofs.Parts.{line_part, part_last, part_same, whole_end, whole_same, whole_then}
use Rattle.vk_lines.proofs.Numbered.{numbered_all, numbered_part}
use Rattle.vk_reply.specs.Texts.{bit_character, bits_text}
use Rattle.vk_reply.specs.Tokens.{bits_of}
use Rattle.vk_reply.proofs.Lines.{bits_token}
use Rattle.vk_coin.specs.declared.share.Share.{Share}
use Rattle.vk_coin.specs.declared.tokens.Show.{Show}
use Rattle.vk_coin.specs.Shares.{IsShare, share_text}
use Rattle.vk_coin.specs.Coins.{IsCoin, IsShareOf, coin_text, part_text, shown_text}
use Rattle.vk_coin.specs.Reading.{auditor_of, bits_within, coin_at, coin_with, part_line, parts_at, share_at, share_with, shares_at, show_by, show_line, shown_at, shown_line}
use Rattle.vk_coin.proofs.Shown.{shares_at_places, shares_in_turn}

-- ---- fields

-- the number that is known
number_shown : (auditor : ℕ) (word : List ℕ) (read : Option ℕ) → auditor < 2 ^ 64
    → number_token auditor auditor word ≡ read
    → ◌≡◌ {A = Option Unit} (option_map (λ _. tt) read) (Some tt) → word ≡ decimal auditor
number_shown auditor word (Some number) fits is some =
    let shown = (meeting_token (λ n. nat_le auditor n) (decimal_token auditor fits)).shown word
    number is in
    let least = from_test auditor number shown.0.1 in
    let most = shown.0.0 in
    let same : number ≡ auditor = omega arith in
    shown.1 ∙ ap decimal same
number_shown auditor word None fits is some = cc

auditor_token : (auditor : ℕ) → auditor < 2 ^ 64
    → IsToken {X = Unit} 20 (λ _. Unit {0}) (λ _. decimal auditor) (auditor_of auditor)
auditor_token auditor fits =
    let number = meeting_token (λ n. nat_le auditor n) (decimal_token auditor fits) in
    let itself : InRange auditor auditor auditor =
    (omega arith, to_test auditor auditor (omega arith)) in
    record {
      found = λ x is. ap (option_map (λ _. tt)) (number.found auditor itself);
      shown = λ word x some. (
        tt,
        number_shown auditor word (number_token auditor auditor word) fits refl some,
      );
      word = λ x is. number.word auditor itself;
      short = λ x is. number.short auditor itself;
    }

bits_by : (test : Bool) (read : Option (List Bool)) (bits : List Bool)
    → (if test then read else None) ≡ Some bits → (test ≡ true) × (read ≡ Some bits)
bits_by true read bits some = (refl, some)
bits_by false read bits some = cc

-- so many bits
within_token : (count : ℕ) → 1 ≤ count → count ≤ 64
    → IsToken 64 (λ bits. length bits ≡ count) bits_text (bits_within count)
within_token count some few =
    let inside : (bits : List Bool) → length bits ≡ count → (1 ≤ length bits) × (length bits ≤ 64) =
    λ bits is. (omega arith, omega arith) in
    record {
      found = λ bits is. rw (eq-eqb (length (bits_text bits)) count
          (length-map bits bit_character ∙ is)) (bits_token.found bits (inside bits is));
      shown = λ word bits read.
          let parts = bits_by (length word == count) (bits_of word) bits read in
          let shown = bits_token.shown word bits parts.1 in
          let long : length word ≡ length bits = ap length shown.1 ∙ length-map bits bit_character
          in
          (sym long ∙ eqb-true (length word) count parts.0, shown.1);
      word = λ bits is. bits_token.word bits (inside bits is);
      short = λ bits is. bits_token.short bits (inside bits is);
    }

-- ---- lines

abbrev IsKey : List ℕ → Type 0
IsKey key = (length key ≡ 32) × IsBytes key

abbrev IsId : List ℕ → Type 0
IsId id = (length id ≡ 16) × IsBytes id

abbrev IsShow : Show → Type 0
IsShow show = IsKey show.key × ((1 ≤ length show.bits) × (length show.bits ≤ 64))

show_line_is : IsLine IsShow (λ show.
    spaced (codes "show" ∷ hex_text show.key ∷ bits_text show.bits ∷ [])) show_line
show_line_is =
    two_line (codes "show") refl (hex_token 32) bits_token (omega arith) show_by (λ show. show.key)
    (λ show. show.bits)
    (λ x. refl) (λ a b. refl) (λ a b. refl)

part_line_is : (auditor : ℕ) → auditor < 2 ^ 64
    → IsLine (λ part. Unit {0} × IsKey part)
    (λ part. spaced (codes "part" ∷ decimal auditor ∷ hex_text part ∷ [])) (part_line auditor)
part_line_is auditor fits =
    two_line (codes "part") refl (auditor_token auditor fits) (hex_token 32) (omega arith)
    (λ _ part. part) (λ part. tt) (λ part. part)
    (λ x. refl) (λ a b. refl) (λ a b. refl)

shown_line_is : (bits auditor : ℕ) → 1 ≤ bits → bits ≤ 64 → auditor < 2 ^ 64
    → IsLine (λ show. Unit {0} × IsKey show.key × (length show.bits ≡ bits))
    (λ show. spaced (codes "show" ∷ decimal auditor ∷ hex_text show.key ∷ bits_text show.bits ∷ []))
    (shown_line bits auditor)
shown_line_is bits auditor some few fits =
    three_line (codes "show") refl (auditor_token auditor fits) (hex_token 32)
    (within_token bits some few) (omega arith) (λ _. show_by)
    (λ show. tt) (λ show. show.key) (λ show. show.bits) (λ x. refl) (λ a b c. refl) (λ a b c. refl)
    (λ a b c. refl)

-- ---- what stands behind the first lines

-- a value behind its heading and the line of its id
titled_whole : {Z : Type 0} {IsZ : List ℕ → Z → Type 0} {text : Z → List ℕ}
    {read : List ℕ → Rest → Result (Z × Rest) ℕ} (heading : List ℕ) → is_plain heading ≡ true
    → length heading ≤ 255 → (id : Z → List ℕ)
    → ((auction : List ℕ) → IsWhole (IsZ auction) text (read auction))
    → ((auction : List ℕ) (z : Z) → IsZ auction z → id z ≡ auction)
    → IsWhole (λ z. IsId (id z) × IsZ (id z) z)
    (λ z. line heading ++ (line (spaced (codes "auction" ∷ hex_text (id z) ∷ [])) ++ text z))
    (λ rest. line_by (word_of heading) rest >>= λ first.
    line_by (id_line (codes "auction")) first.1 >>= λ auction. read auction.0 auction.1)
titled_whole {IsZ = IsZ} {text = text} {read = read} heading plain short id whole same =
    whole_same (
    whole_then (λ z. tt) (line_part (fixed_line heading plain short)) (λ first _.
    whole_then {IsZ = IsZ} {text_z = λ _ z. text z} {read_z = read} id
    (line_part (id_line_is (codes "auction") refl (omega arith))) (λ auction _. whole auction)
    same)
    (λ first z is. refl)
    )
    (λ z is. is.1) (λ z is. (tt, is)) (λ z. refl)

-- ---- a share

-- what a share shows
abbrev show_of : Share → Show
show_of share = record { key = share.key; bits = share.bits }

pub share_is_whole : IsWhole IsShare share_text share_at
unfolding share_text share_at
share_is_whole =
    whole_same (titled_whole (codes "vickrey-share 1") refl (omega arith) (λ share. share.auction)
    (λ auction. whole_then (λ share. share.auditor)
    (line_part (number_line_is (codes "auditor") 1 16 refl (omega arith) (omega arith)))
    (λ auditor _. whole_then show_of (line_part show_line_is)
    (λ show _. whole_end (share_with auction auditor show)) (λ show share same. ap show_of same))
    (λ auditor share is. ap (λ s. s.auditor) is.1))
    (λ auction share is. ap (λ s. s.auction) is.1.1)
    )
    (λ share is. record {
      id = is.0;
      auditor = record { least = from_test 1 share.auditor is.1.0.1; most = is.1.0.0 };
      count = record { least = is.1.1.0.1.0; most = is.1.1.0.1.1 };
      key = is.1.1.0.0;
    })
    (λ share is. (
      is.id,
      (
        (is.auditor.most, to_test 1 share.auditor is.auditor.least),
        ((is.key, (is.count.least, is.count.most)), refl),
      ),
    ))
    (λ share. refl)

-- ---- the parts and the shares of a coin

parts_part : (auditors : ℕ) → auditors ≤ 16
    → IsPart (λ parts. (length parts ≡ auditors) × AllByRecursion (AreBytes 32) parts)
    (numbered_text part_text 1) (parts_at auditors)
parts_part auditors few =
    numbered_all {IsValue = AreBytes 32} 16 auditors few (λ auditor most.
    part_same (line_part (part_line_is auditor (omega arith))) (λ part is. is.1)
    (λ part is. (tt, is)) (λ part. refl))

shown_part : (auction : List ℕ) (bits auditor : ℕ) → 1 ≤ bits → bits ≤ 64 → auditor ≤ 16
    → IsPart (IsShareOf auction bits auditor) (shown_text auditor) (shown_at auction bits auditor)
unfolding shown_at
shown_part auction bits auditor some few most =
    part_same (part_last show_of (share_with auction auditor) (λ show. refl)
    (line_part (shown_line_is bits auditor some few (omega arith))))
    (λ share is. record {
      auction = ap (λ s. s.auction) is.1;
      auditor = ap (λ s. s.auditor) is.1;
      bits = is.0.2;
      key = is.0.1;
    })
    (λ share is. ((tt, is.key, is.bits), rw (sym is.auction, sym is.auditor) refl))
    (λ share. refl)

shares_part : (auction : List ℕ) (bits auditors : ℕ) → 1 ≤ bits → bits ≤ 64 → auditors ≤ 16
    → IsPart (λ shares. (length shares ≡ auditors)
    × EachAfter (λ before. IsShareOf auction bits (length before + 1)) [] shares)
    (numbered_text shown_text 1) (shares_at auction bits auditors)
shares_part auction bits auditors some few most =
    numbered_part {IsValue = IsShareOf auction bits} 16 auditors most
    (λ auditor small. shown_part auction bits auditor some few small)

-- ---- a coin

pub coin_is_whole : IsWhole IsCoin coin_text coin_at
unfolding coin_text coin_at
coin_is_whole =
    whole_same (
    titled_whole (codes "vickrey-coin 1") refl (omega arith) (λ coin. coin.auction) (λ auction.
    whole_then (λ coin. coin.bits)
    (line_part (number_line_is (codes "bits") 1 64 refl (omega arith) (omega arith))) (λ bits few.
    whole_then (λ coin. length coin.parts)
    (line_part (number_line_is (codes "auditors") 1 16 refl (omega arith) (omega arith)))
    (λ auditors most. whole_then (λ coin. coin.parts) (parts_part auditors most.0) (λ parts _.
    whole_then (λ coin. coin.shares)
    (shares_part auction bits auditors (from_test 1 bits few.1) few.0 most.0)
    (λ shares _. whole_end (coin_with auction bits parts shares))
    (λ shares coin same. ap (λ c. c.shares) same))
    (λ parts coin is. ap (λ c. c.parts) is.1))
    (λ auditors coin is. is.0.0))
    (λ bits coin is. ap (λ c. c.bits) is.1.1.1))
    (λ auction coin is. ap (λ c. c.auction) is.1.1.1.1)
    )
    (λ coin is. record {
      bits = record { least = from_test 1 coin.bits is.1.0.1; most = is.1.0.0 };
      auditors = record { least = from_test 1 (length coin.parts) is.1.1.0.1; most = is.1.1.0.0 };
      parts = is.1.1.1.0.1;
      one_each = is.1.1.1.1.0.0;
      shares = shares_at_places coin.auction coin.bits coin.shares is.1.1.1.1.0.1;
      id = is.0;
    })
    (λ coin is. (
      is.id,
      (
        (is.bits.most, to_test 1 coin.bits is.bits.least),
        (
          (is.auditors.most, to_test 1 (length coin.parts) is.auditors.least),
          (
            (refl, is.parts),
            (
              (
                is.one_each,
                shares_in_turn coin.auction coin.bits coin.shares is.shares,
              ),
              refl,
            ),
          ),
        ),
      ),
    ))
    (λ coin. refl)
