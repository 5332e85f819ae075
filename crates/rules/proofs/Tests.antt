-- What a test that passed says: settings in range, and what is lent accepted.
use Prim.Native.Nat.{ℕ, ◌≤◌}
use mathlib.Core.Bool.{true, ◌&&◌, and-eq-true_iff}
use mathlib.Core.Path.{◌≡◌}
use lib.Dec.{leb}
use lib.ListN.{length}
use borrow.Author.Tests.{leb-true}
use Rattle.rules.specs.Numbers.{T_least, T_most, within, in_range}
use Rattle.rules.specs.Pairs.{Lent, T_s_least, T_s_most, N_least, N_most, pairs_most, none_twice, each_good, lent_good}
use Rattle.rules.specs.declared.Settings.{Settings}

pub within_bounds : (least most n : ℕ) → within least most n ≡ true → (least ≤ n) × (n ≤ most)
within_bounds least most n h =
    let p = (and-eq-true_iff (leb least n) (leb n most)).0 h in
    (leb-true least n p.0, leb-true n most p.1)

-- settings in range, as bounds
pub record InRange (s : Settings) : Type 0 where
  pub T_bounds : (T_least ≤ s.t) × (s.t ≤ T_most)
  pub J_bounds : (1 ≤ s.j) × (s.j ≤ 99)
  pub L_bounds : (1 ≤ s.l) × (s.l ≤ 99)
  pub solo_bounds : (0 ≤ s.solo) × (s.solo ≤ 1)

pub range_bounds : (s : Settings) → in_range s ≡ true → InRange s
unfolding in_range
range_bounds s h =
    let t = within T_least T_most s.t in
    let j = within 1 99 s.j in
    let l = within 1 99 s.l in
    let tjl = (and-eq-true_iff (t && j && l) (within 0 1 s.solo)).0 h in
    let tj = (and-eq-true_iff (t && j) l).0 tjl.0 in
    let t-alone = (and-eq-true_iff t j).0 tj.0 in
    record {
      T_bounds = within_bounds T_least T_most s.t t-alone.0;
      J_bounds = within_bounds 1 99 s.j t-alone.1;
      L_bounds = within_bounds 1 99 s.l tj.1;
      solo_bounds = within_bounds 0 1 s.solo tjl.1;
    }

-- what is lent, accepted, as bounds
pub record Good (g : Lent) : Type 0 where
  pub few : length g.pairs ≤ pairs_most
  pub once : none_twice g.pairs ≡ true
  pub each : each_good g.pairs ≡ true
  pub T_s_bounds : (T_s_least ≤ g.t_s) × (g.t_s ≤ T_s_most)
  pub N_bounds : (N_least ≤ g.n) × (g.n ≤ N_most)

pub good_bounds : (g : Lent) → lent_good g ≡ true → Good g
unfolding lent_good
good_bounds g h =
    let f = leb (length g.pairs) pairs_most in
    let o = none_twice g.pairs in
    let e = each_good g.pairs in
    let t = within T_s_least T_s_most g.t_s in
    let foet = (and-eq-true_iff (f && o && e && t) (within N_least N_most g.n)).0 h in
    let foe = (and-eq-true_iff (f && o && e) t).0 foet.0 in
    let fo = (and-eq-true_iff (f && o) e).0 foe.0 in
    let f-alone = (and-eq-true_iff f o).0 fo.0 in
    record {
      few = leb-true (length g.pairs) pairs_most f-alone.0;
      once = f-alone.1;
      each = fo.1;
      T_s_bounds = within_bounds T_s_least T_s_most g.t_s foe.1;
      N_bounds = within_bounds N_least N_most g.n foet.1;
    }
