-- The law of wrapping, cited at 16 bits for the parts of a Q and at 48 for words.
use Rattle.std.proofs.Common.{◌≡◌, ℕ, ◌/◌, ◌%◌, ◌^◌, pos, ◌+ℤ◌, ◌-ℤ◌, neg_ℤ, sym, ap, ◌∙◌, mod-eq_of_lt, arith}
use Rattle.word.specs.Wrap.{wrap, signed}
use Rattle.word.specs.Qs.{parts, with_m, with_c, joined}
use Rattle.word.specs.Laws.{PartLaws, WordLaws}
use Rattle.word.proofs.Wrapping.{wraps}
use Rattle.word.proofs.Undone.{same_sum, sum_undone, difference_undone, negative_undone, plain, with_sign}
use Rattle.word.proofs.laws.undone_holds.Goals as goal

part_laws : PartLaws
part_laws =
    let law = wraps 16 in
    record {
      advance_undone = λ q f.
          let z = pos q.m +ℤ pos q.i in
          ap (λ (n : ℕ). with_m n q) (sum_undone 16 law (pos q.m) (pos q.i) (pos (wrap 16 z)) (plain 16 law z) ∙ mod-eq_of_lt f.m_fits);
      retreat_undone = λ q f.
          let z = pos q.m -ℤ pos q.i in
          ap (λ (n : ℕ). with_m n q) (difference_undone 16 law (pos q.m) (pos q.i) (pos (wrap 16 z)) (plain 16 law z) ∙ mod-eq_of_lt f.m_fits);
      negate_undone = λ q f.
          let z = neg_ℤ (pos q.c) in
          ap (λ (n : ℕ). with_c n q) (negative_undone 16 law (pos q.c) (pos (wrap 16 z)) (plain 16 law z) ∙ mod-eq_of_lt f.c_fits);
      part_undone = λ p h. (wraps 48).narrow 16 (signed 16 p) (omega arith) ∙ law.bits p h;
      join_undone = λ q f.
          let x = joined q in
          let c : x / 2 ^ 32 ≡ q.c = omega arith in
          let i : x / 2 ^ 16 % 2 ^ 16 ≡ q.i = omega arith in
          let m : x % 2 ^ 16 ≡ q.m = omega arith in
          ap (λ (n : ℕ). parts n (x / 2 ^ 16 % 2 ^ 16) (x % 2 ^ 16)) c ∙ ap (λ (n : ℕ). parts q.c n (x % 2 ^ 16)) i ∙ ap (λ (n : ℕ). with_m n q) m;
      split_undone = λ x h. omega arith;
    }

word_laws : WordLaws
word_laws =
    let law = wraps 48 in
    record {
      add_undone = λ a b h.
          let z = signed 48 a +ℤ signed 48 b in
          sum_undone 48 law (signed 48 a) (signed 48 b) (signed 48 (wrap 48 z)) (with_sign 48 law z) ∙ law.bits a h;
      sub_undone = λ a b h.
          let z = signed 48 a -ℤ signed 48 b in
          difference_undone 48 law (signed 48 a) (signed 48 b) (signed 48 (wrap 48 z)) (with_sign 48 law z) ∙ law.bits a h;
      neg_undone = λ a h.
          let z = neg_ℤ (signed 48 a) in
          negative_undone 48 law (signed 48 a) (signed 48 (wrap 48 z)) (with_sign 48 law z) ∙ law.bits a h;
      sum_masked = λ a b h k.
          same_sum 48 law (signed 48 a) (signed 48 b) (pos a) (pos b) (law.bits a h ∙ sym (mod-eq_of_lt h)) (law.bits b k ∙ sym (mod-eq_of_lt k));
    }

pub returns : goal.returns
returns c = record { parts = part_laws; words = word_laws }
