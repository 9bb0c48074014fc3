-- How reading goes on from one command to the next. Assumes nothing.
use Rattle.std.proofs.Common.{◌≡◌, ℕ, zero, suc, ◌+◌, ◌-◌, ◌<◌, ◌≤◌, ltb, leb, List, [], ◌∷◌, length, get_or, take, drop, Some, None, Ok, Err, sym, refl, ap, ◌∙◌, arith, length-drop}
use Rattle.std.specs.List.{slice_range}
use Rattle.std.proofs.lemmas.List.{drop_more, drop-drop, drop_all, take_all}
use Rattle.std.proofs.lemmas.Bool.{cond-true, cond-false, cond_both, le-leb, lt-leb, ltb-false}
use Rattle.faults.specs.declared.refusal.Refusal.TheVariants.{UnknownLetter, OperandsCutShort}
use Rattle.tape.specs.declared.kind.Kind.{Kind}
use Rattle.tape.specs.declared.command.Command.{Command}
use Rattle.tape.specs.Kinds.{form, kind_of}
use Rattle.tape.specs.Written.{command_of}
use Rattle.tape.specs.Reading.{tape_fault, begin, items, to_come}

-- the front of what follows a place is a front of the list from there on
pub front_is : (bs : List ℕ) (i w : ℕ) → slice_range (take (length bs - i) (drop i bs)) 0 w ≡ take w (drop i bs)
front_is bs i w =
    let l = length-drop i bs in
    let n : w - 0 ≡ w = omega arith in
    ap (λ m. take m (take (length bs - i) (drop i bs))) n ∙ ap (take w) (take_all (length bs - i) (drop i bs) (omega arith))

-- and where there is such a front, it lies within the list
pub front_within : (bs : List ℕ) (i w : ℕ) → i ≤ length bs → w ≤ length (take (length bs - i) (drop i bs)) → i + w ≤ length bs
front_within bs i w h e =
    let l = length-drop i bs in
    let whole = ap length (take_all (length bs - i) (drop i bs) (omega arith)) in
    omega arith

-- operands are passed over
items_skip : (n at : ℕ) (bs : List ℕ) → items n at bs ≡ items 0 (at + n) (drop n bs)
items_skip zero at bs = let e : at ≡ at + 0 = omega arith in ap (λ m. items 0 m bs) e
items_skip (suc n) at [] = refl
items_skip (suc n) at (b ∷ bs) = let e : at + 1 + n ≡ at + suc n = omega arith in items_skip n (at + 1) bs ∙ ap (λ m. items 0 m (drop n bs)) e

pub to_come_lem : (tape : List ℕ) (at : ℕ) → to_come tape at ≡ items 0 at (drop at tape)
to_come_lem tape at =
    cond_both (ltb at (length tape)) _ _ (λ l. l ≡ items 0 at (drop at tape)) (λ t. refl)
    (λ t. ap (items 0 at) (sym (drop_all at tape (ltb-false _ _ t))))

module _ (at : ℕ) (b : ℕ) (bs : List ℕ) where
  pub items_unknown : kind_of b ≡ None → items 0 at (b ∷ bs) ≡ Err (tape_fault UnknownLetter at) ∷ []
  items_unknown e = ap (λ o. begin o at bs (λ n. items n (at + 1) bs)) e

  module _ (k : Kind) (is : kind_of b ≡ Some k) where
    pub items_short : length bs < (form k).width → items 0 at (b ∷ bs) ≡ Err (tape_fault OperandsCutShort at) ∷ []
    items_short few = ap (λ o. begin o at bs (λ n. items n (at + 1) bs)) is ∙ cond-false (leb (form k).width (length bs)) _ _ (lt-leb _ _ few)

    pub items_command : (form k).width ≤ length bs → items 0 at (b ∷ bs) ≡ Ok (command_of k (take (form k).width bs)) ∷ items 0 (at + 1 + (form k).width) (drop (form k).width bs)
    items_command all =
        ap (λ o. begin o at bs (λ n. items n (at + 1) bs)) is
        ∙ cond-true (leb (form k).width (length bs)) _ _ (le-leb _ _ all)
        ∙ ap (λ l. Ok (command_of k (take (form k).width bs)) ∷ l) (items_skip (form k).width (at + 1) bs)

module _ (tape : List ℕ) (at : ℕ) (inside : at < length tape) where
  here : to_come tape at ≡ items 0 at (get_or tape at 0 ∷ drop (at + 1) tape)
  here = to_come_lem tape at ∙ ap (items 0 at) (drop_more tape at 0 inside)

  module _ (k : Kind) (is : kind_of (get_or tape at 0) ≡ Some k) (w : ℕ) (wide : w ≡ (form k).width) where
    pub step_command : (c : Command) (operands : List ℕ) → c ≡ command_of k operands → operands ≡ take w (drop (at + 1) tape) → at + 1 + w ≤ length tape → to_come tape at ≡ Ok c ∷ to_come tape (at + 1 + w)
    step_command c operands e cut all =
        let l = length-drop (at + 1) tape in
        let first : c ≡ command_of k (take (form k).width (drop (at + 1) tape)) = e ∙ ap (command_of k) (cut ∙ ap (λ m. take m (drop (at + 1) tape)) wide) in
        here
        ∙ items_command at (get_or tape at 0) (drop (at + 1) tape) k is (omega arith)
        ∙ ap (λ m. Ok (command_of k (take (form k).width (drop (at + 1) tape))) ∷ items 0 (at + 1 + m) (drop m (drop (at + 1) tape))) (sym wide)
        ∙ ap (λ d. d ∷ items 0 (at + 1 + w) (drop w (drop (at + 1) tape))) (ap Ok (sym first))
        ∙ ap (λ l. Ok c ∷ l) (ap (items 0 (at + 1 + w)) (drop-drop w (at + 1) tape) ∙ sym (to_come_lem tape (at + 1 + w)))
