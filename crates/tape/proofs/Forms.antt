-- Letters and operands, kind by kind. Assumes nothing.
use Rattle.std.proofs.Common.{◌≡◌, ℕ, ◌+◌, ◌*◌, ◌/◌, ◌%◌, ◌<◌, eqb, List, [], ◌∷◌, map, length, get_or, Some, None, Option, sym, refl, ap, ◌∙◌, arith}
use Rattle.std.specs.List.{range_with_len}
use Rattle.std.proofs.lemmas.List.FromFn.{fill_by_all}
use Rattle.std.proofs.lemmas.Bool.{cond_both, eqb-true, eqb-false}
use Rattle.tape.specs.declared.kind.Kind.{Kind}
use Rattle.tape.specs.declared.kind.Kind.TheVariants.{Add as an_add, Withdraw as a_withdraw, Limit as a_limit, Plan as a_plan}
use Rattle.tape.specs.declared.command.Command.{Command}
use Rattle.tape.specs.declared.command.Command.TheVariants.{Add, Withdraw, Limit, Plan}
use Rattle.tape.specs.Kinds.{form, kind_of}
use Rattle.tape.specs.Written.{kind_is, word_then, operands_of, word_at, command_of}

pub kind_of_letter : (k : Kind) → kind_of (form k).letter ≡ Some k
kind_of_letter an_add = refl
kind_of_letter a_withdraw = refl
kind_of_letter a_limit = refl
kind_of_letter a_plan = refl

-- a byte is the letter of the kind that is found for it, and no kind's letter where none is found
abbrev pub Found : ℕ → Option Kind → Type 0
Found b None = (k : Kind) → b ≡ (form k).letter → ⊥
Found b (Some k) = b ≡ (form k).letter

pub kind_found : (b : ℕ) → Found b (kind_of b)
kind_found b =
    cond_both (eqb b (form an_add).letter) _ _ (Found b) (eqb-true b (form an_add).letter)
    (λ a. cond_both (eqb b (form a_withdraw).letter) _ _ (Found b) (eqb-true b (form a_withdraw).letter)
    (λ w. cond_both (eqb b (form a_limit).letter) _ _ (Found b) (eqb-true b (form a_limit).letter)
    (λ l. cond_both (eqb b (form a_plan).letter) _ _ (Found b) (eqb-true b (form a_plan).letter)
    (λ p k. elim k as (λ j. b ≡ (form j).letter → ⊥) [ an_add ↦ eqb-false b (form an_add).letter a | a_withdraw ↦ eqb-false b (form a_withdraw).letter w | a_limit ↦ eqb-false b (form a_limit).letter l | a_plan ↦ eqb-false b (form a_plan).letter p ]))))

pub no_kind : (b : ℕ) (o : Option Kind) → Found b o → Found b None → o ≡ None
no_kind b None found none = refl
no_kind b (Some k) found none = absurd (none k found)

pub operands_width : (c : Command) → length (operands_of c) ≡ (form (kind_is c)).width
operands_width (Add n s d e a) = refl
operands_width (Withdraw n) = refl
operands_width (Limit l) = refl
operands_width Plan = refl

-- the two bytes of a number make it again
word_joined : (n : ℕ) → n / 256 * 256 + n % 256 ≡ n
word_joined n = omega arith

pub command_of_operands : (c : Command) → command_of (kind_is c) (operands_of c) ≡ c
command_of_operands (Add n s d e a) = let x = word_joined n in let y = word_joined d in let z = word_joined a in cc
command_of_operands (Withdraw n) = ap Withdraw (word_joined n)
command_of_operands (Limit l) = refl
command_of_operands Plan = refl

pub kind_of_command : (k : Kind) (bs : List ℕ) → kind_is (command_of k bs) ≡ k
kind_of_command an_add bs = refl
kind_of_command a_withdraw bs = refl
kind_of_command a_limit bs = refl
kind_of_command a_plan bs = refl

-- the number of two bytes has those bytes
cut : (bs : List ℕ) (i : ℕ) (rest : List ℕ) → get_or bs (i + 1) 0 < 256 → word_then (word_at bs i) rest ≡ get_or bs i 0 ∷ get_or bs (i + 1) 0 ∷ rest
cut bs i rest low =
    let high : word_at bs i / 256 ≡ get_or bs i 0 = omega arith in
    let rem : word_at bs i % 256 ≡ get_or bs (i + 1) 0 = omega arith in
    cc

module _ (bs : List ℕ) (byte : (i : ℕ) → get_or bs i 0 < 256) where
  listed : (n : ℕ) → length bs ≡ n → map (λ i. get_or bs i 0) (range_with_len 0 n) ≡ bs
  listed n e = sym (fill_by_all (λ i. get_or bs i 0) bs n 0 e (λ k h. refl))

  pub operands_of_command : (k : Kind) → length bs ≡ (form k).width → operands_of (command_of k bs) ≡ bs
  operands_of_command an_add e =
      cut bs 0 _ (byte 1)
      ∙ ap (λ r. get_or bs 0 0 ∷ get_or bs 1 0 ∷ get_or bs 2 0 ∷ r) (cut bs 3 _ (byte 4) ∙ ap (λ r. get_or bs 3 0 ∷ get_or bs 4 0 ∷ get_or bs 5 0 ∷ r) (cut bs 6 [] (byte 7)))
      ∙ listed 8 e
  operands_of_command a_withdraw e = cut bs 0 [] (byte 1) ∙ listed 2 e
  operands_of_command a_limit e = listed 1 e
  operands_of_command a_plan e = listed 0 e
