-- One step of a growth, in weights: the raise, the mark and the scan. Assumes nothing.
use Rattle.std.proofs.Common.{◌≡◌, ℕ, ◌+◌, ◌<◌, ◌≤◌, List, length, set, ℤ, pos, ◌+ℤ◌, ◌≤ℤ◌, Some, ◌∙◌, subst, arith, length-set}
use borrow.Author.Differences.{ints}
use Rattle.duties.specs.Duties.{Net}
use Rattle.matchings.specs.Tables.{at, at_z, Scan, Reached, RaiseHeads, RaiseTails, Least, Names}
use Rattle.matchings.specs.Sound.{Matching, Sound, Tree, Searching, Raised}
use Rattle.matchings.proofs.Counts.{free_less}
use Rattle.matchings.proofs.MarkKeeps.{mark_at, mark_tree, mark_slacks, mark_old, mark_still, mark_now, mark_taken}
use Rattle.matchings.proofs.RaiseKeeps.{raise_feasible, raise_tight, raise_slacks, raise_tree}
use Rattle.matchings.proofs.ScanKeeps.{scan_slacks, tree_scan}

-- each head has a tail that is a trip, or none
pub names : (n : ℕ) (next prior : List ℕ) → Matching n next prior → Names n prior
names n next prior m = record { below = λ j l f. (m.back j (let e = m.prior_long in omega arith) f).0 }

module _ (net : Net ℤ) (n : ℕ) (few : n ≤ 4000) (next prior reached via : List ℕ) (a b slack : List ℤ) (h : ℤ) (t i : ℕ)
    (sound : Sound net n next prior a b h) (searching : Searching net n next prior reached via a b slack t) (least : Least reached slack via n (Some i)) where
  small : n < 65535
  small = omega arith

  lower : t < 65535
  lower = let c = searching.count in omega arith

  module _ (d h' : ℤ) (a' b' slack' : List ℤ) (up : pos 0 ≤ℤ at_z slack i) (is : d ≡ at_z slack i) (at_h : h' ≡ (h +ℤ d))
      (heads : RaiseHeads prior reached d (length reached) a a') (tails : RaiseTails reached via d (length reached) b b' slack slack') where
    heads_n : RaiseHeads prior reached d n a a'
    heads_n = subst (λ x. RaiseHeads prior reached d x a a') searching.reached_long heads

    tails_n : RaiseTails reached via d n b b' slack slack'
    tails_n = subst (λ x. RaiseTails reached via d x b b' slack slack') searching.reached_long tails

    -- the raise by the least slack
    pub raised : Raised net n next prior reached via a' b' slack' h' t i
    raised =
        let pos_d : pos 0 ≤ℤ d = omega (arith, ints) in
        let under : (k : ℕ) → k < n → at reached k ≡ 65535 → (at via k ≡ 65535 → ⊥) → d ≤ℤ at_z slack k = λ k l o f. let x = least.3 k l o f in omega (arith, ints) in
        let m = sound.matching in
        record {
          sound = record {
            matching = m;
            feasible = rw at_h (raise_feasible net n small next prior reached via a b slack h h d t a' b' slack' m searching.tree searching.taken searching.slacks heads_n tails_n pos_d under sound.feasible);
            tight = rw at_h (raise_tight net n small next prior reached via a b slack h h d t a' b' slack' m searching.tree searching.taken searching.slacks heads_n tails_n pos_d under sound.tight);
          };
          slacks = raise_slacks net n small next prior reached via a b slack h h d t a' b' slack' m searching.tree searching.taken searching.slacks heads_n tails_n pos_d under;
          tree = raise_tree net n small next prior reached via a b slack h h d t a' b' slack' m searching.tree searching.taken searching.slacks heads_n tails_n pos_d under (let c = lower in omega arith);
          zero = let e = tails_n.slack i least.0 least.1 least.2 in omega (arith, ints);
        }

  module _ (h' : ℤ) (a' b' slack' : List ℤ) (r : Raised net n next prior reached via a' b' slack' h' t i) where
    -- the tail is marked
    pub ended : Tree net n prior (set reached i t) via a' b' (t + 1) × (at (set reached i t) i ≡ t)
    ended = (
      mark_tree net n small next prior reached via a' b' slack' t i sound.matching searching.reached_long r.tree r.slacks lower least.0 least.1 least.2 r.zero,
      mark_at net n small next prior reached via a' b' slack' t i sound.matching searching.reached_long r.tree r.slacks lower least.0 least.1 least.2 r.zero,
    )

    -- the tail is marked, and the links to its head are scanned
    pub grown : (forward : (i j : ℕ) (v : ℤ) → net.link i j ≡ Some v → i < j) (some : at next i ≡ 65535 → ⊥) (aj : ℤ) → aj ≡ at_z a' (at next i) → (slack'' : List ℤ) (via'' : List ℕ) → length via'' ≡ n
        → Scan net (at next i) aj b' (set reached i t) (at next i) slack' slack'' via via'' → Searching net n next prior (set reached i t) via'' a' b' slack'' (t + 1)
    grown forward some aj is slack'' via'' via_long scan =
        let m = sound.matching in
        let tree' = ended.0 in
        let o = m.out i least.0 some in
        let within : i < length reached = let e = searching.reached_long in let l = least.0 in omega arith in
        record {
          reached_long = length-set reached i t ∙ searching.reached_long;
          via_long = via_long;
          slacks = scan_slacks net n forward (Reached prior reached) (Reached prior (set reached i t)) (set reached i t) via a' b' slack'
              (mark_slacks net n small next prior reached via a' b' slack' t i m searching.reached_long r.tree r.slacks lower least.0 least.1 least.2 r.zero)
              (at next i) o.0 slack'' via'' (rw is at scan)
              (mark_old net n small next prior reached via a' b' slack' t i m searching.reached_long r.tree r.slacks lower least.0 least.1 least.2 r.zero)
              (mark_still net n small next prior reached via a' b' slack' t i m searching.reached_long r.tree r.slacks lower least.0 least.1 least.2 r.zero)
              (mark_now net n small next prior reached via a' b' slack' t i m searching.reached_long r.tree r.slacks lower least.0 least.1 least.2 r.zero some);
          tree = tree_scan net n prior (set reached i t) via a' b' (t + 1) (at next i) aj slack' slack'' via'' scan tree';
          taken = mark_taken net n small next prior reached via a' b' slack' t i m searching.reached_long r.tree r.slacks lower least.0 least.1 least.2 r.zero searching.taken some;
          count = let c = searching.count in let e = free_less reached i t within least.1 (λ z. let f = lower in omega arith) in omega arith;
        }

-- a raise by no more than the least slack
pub lifted : (net : Net ℤ) (n : ℕ) → n ≤ 4000 → (next prior reached via : List ℕ) (a b slack : List ℤ) (h : ℤ) (t : ℕ) → Sound net n next prior a b h → Searching net n next prior reached via a b slack t
    → (d h' : ℤ) (a' b' slack' : List ℤ) → pos 0 ≤ℤ d → ((k : ℕ) → k < n → at reached k ≡ 65535 → (at via k ≡ 65535 → ⊥) → d ≤ℤ at_z slack k) → h' ≡ (h +ℤ d)
    → RaiseHeads prior reached d (length reached) a a' → RaiseTails reached via d (length reached) b b' slack slack' → Sound net n next prior a' b' h'
lifted net n few next prior reached via a b slack h t sound searching d h' a' b' slack' pos_d under at_h heads tails =
    let small : n < 65535 = omega arith in
    let m = sound.matching in
    let heads_n = subst (λ x. RaiseHeads prior reached d x a a') searching.reached_long heads in
    let tails_n = subst (λ x. RaiseTails reached via d x b b' slack slack') searching.reached_long tails in
    record {
      matching = m;
      feasible = rw at_h (raise_feasible net n small next prior reached via a b slack h h d t a' b' slack' m searching.tree searching.taken searching.slacks heads_n tails_n pos_d under sound.feasible);
      tight = rw at_h (raise_tight net n small next prior reached via a b slack h h d t a' b' slack' m searching.tree searching.taken searching.slacks heads_n tails_n pos_d under sound.tight);
    }
