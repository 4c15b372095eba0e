-- An expression by its code.
use mathlib.Core.Path.{◌≡◌, subst}
use Prim.Native.Nat.{ℕ}
use Rattle.paper.specs.Types.{Ty}
use Rattle.reading.specs.Placed as e
use Rattle.reading.specs.Placed.{Exp}

abbrev pub code_num : Exp → ℕ
code_num (e.unit p) = 1
code_num (e.num p i) = 2
code_num (e.var p i) = 3
code_num (e.lam p t m a) = 4
code_num (e.app p a b) = 5
code_num (e.cell p k t a) = 6
code_num (e.read p a) = 7
code_num (e.write p a b) = 8
code_num (e.fork p a) = 9
code_num (e.new_lock p a) = 10
code_num (e.sync p a b) = 11
code_num (e.let_in p a b) = 12
code_num (e.seq p a b) = 13
code_num (e.add p a b) = 14
code_num (e.if_not0 p t a b c) = 15

-- the construct that a code tells
data Coded : ℕ → Exp → Type 0 where
  is_unit : (p : ℕ) → Coded 1 (e.unit p)
  is_num : (p i : ℕ) → Coded 2 (e.num p i)
  is_var : (p i : ℕ) → Coded 3 (e.var p i)
  is_lam : (p : ℕ) (t : Ty) (m : ℕ) (a : Exp) → Coded 4 (e.lam p t m a)
  is_app : (p : ℕ) (a b : Exp) → Coded 5 (e.app p a b)
  is_cell : (p k : ℕ) (t : Ty) (a : Exp) → Coded 6 (e.cell p k t a)
  is_read : (p : ℕ) (a : Exp) → Coded 7 (e.read p a)
  is_write : (p : ℕ) (a b : Exp) → Coded 8 (e.write p a b)
  is_fork : (p : ℕ) (a : Exp) → Coded 9 (e.fork p a)
  is_new_lock : (p : ℕ) (a : Exp) → Coded 10 (e.new_lock p a)
  is_sync : (p : ℕ) (a b : Exp) → Coded 11 (e.sync p a b)
  is_let_in : (p : ℕ) (a b : Exp) → Coded 12 (e.let_in p a b)
  is_seq : (p : ℕ) (a b : Exp) → Coded 13 (e.seq p a b)
  is_add : (p : ℕ) (a b : Exp) → Coded 14 (e.add p a b)
  is_if_not0 : (p : ℕ) (t : Ty) (a b c : Exp) → Coded 15 (e.if_not0 p t a b c)

coded : (x : Exp) → Coded (code_num x) x
coded (e.unit p) = is_unit p
coded (e.num p i) = is_num p i
coded (e.var p i) = is_var p i
coded (e.lam p t m a) = is_lam p t m a
coded (e.app p a b) = is_app p a b
coded (e.cell p k t a) = is_cell p k t a
coded (e.read p a) = is_read p a
coded (e.write p a b) = is_write p a b
coded (e.fork p a) = is_fork p a
coded (e.new_lock p a) = is_new_lock p a
coded (e.sync p a b) = is_sync p a b
coded (e.let_in p a b) = is_let_in p a b
coded (e.seq p a b) = is_seq p a b
coded (e.add p a b) = is_add p a b
coded (e.if_not0 p t a b c) = is_if_not0 p t a b c

coded_by : (c : ℕ) (x : Exp) → code_num x ≡ c → Coded c x
coded_by c x z = subst (λ (k : ℕ). Coded k x) z (coded x)

-- an expression by its code
module _ (P : Exp → Type 0) where
  pub by_unit : (x : Exp) → code_num x ≡ 1 → ((p : ℕ) → P (e.unit p)) → P x
  by_unit x z f = go (coded_by 1 x z)
    where
      go : {x : Exp} → Coded 1 x → P x
      go (is_unit p) = f p

  pub by_num : (x : Exp) → code_num x ≡ 2 → ((p i : ℕ) → P (e.num p i)) → P x
  by_num x z f = go (coded_by 2 x z)
    where
      go : {x : Exp} → Coded 2 x → P x
      go (is_num p i) = f p i

  pub by_var : (x : Exp) → code_num x ≡ 3 → ((p i : ℕ) → P (e.var p i)) → P x
  by_var x z f = go (coded_by 3 x z)
    where
      go : {x : Exp} → Coded 3 x → P x
      go (is_var p i) = f p i

  pub by_lam : (x : Exp) → code_num x ≡ 4 → ((p : ℕ) (t : Ty) (m : ℕ) (a : Exp) → P (e.lam p t m a)) → P x
  by_lam x z f = go (coded_by 4 x z)
    where
      go : {x : Exp} → Coded 4 x → P x
      go (is_lam p t m a) = f p t m a

  pub by_app : (x : Exp) → code_num x ≡ 5 → ((p : ℕ) (a b : Exp) → P (e.app p a b)) → P x
  by_app x z f = go (coded_by 5 x z)
    where
      go : {x : Exp} → Coded 5 x → P x
      go (is_app p a b) = f p a b

  pub by_cell : (x : Exp) → code_num x ≡ 6 → ((p k : ℕ) (t : Ty) (a : Exp) → P (e.cell p k t a)) → P x
  by_cell x z f = go (coded_by 6 x z)
    where
      go : {x : Exp} → Coded 6 x → P x
      go (is_cell p k t a) = f p k t a

  pub by_read : (x : Exp) → code_num x ≡ 7 → ((p : ℕ) (a : Exp) → P (e.read p a)) → P x
  by_read x z f = go (coded_by 7 x z)
    where
      go : {x : Exp} → Coded 7 x → P x
      go (is_read p a) = f p a

  pub by_write : (x : Exp) → code_num x ≡ 8 → ((p : ℕ) (a b : Exp) → P (e.write p a b)) → P x
  by_write x z f = go (coded_by 8 x z)
    where
      go : {x : Exp} → Coded 8 x → P x
      go (is_write p a b) = f p a b

  pub by_fork : (x : Exp) → code_num x ≡ 9 → ((p : ℕ) (a : Exp) → P (e.fork p a)) → P x
  by_fork x z f = go (coded_by 9 x z)
    where
      go : {x : Exp} → Coded 9 x → P x
      go (is_fork p a) = f p a

  pub by_new_lock : (x : Exp) → code_num x ≡ 10 → ((p : ℕ) (a : Exp) → P (e.new_lock p a)) → P x
  by_new_lock x z f = go (coded_by 10 x z)
    where
      go : {x : Exp} → Coded 10 x → P x
      go (is_new_lock p a) = f p a

  pub by_sync : (x : Exp) → code_num x ≡ 11 → ((p : ℕ) (a b : Exp) → P (e.sync p a b)) → P x
  by_sync x z f = go (coded_by 11 x z)
    where
      go : {x : Exp} → Coded 11 x → P x
      go (is_sync p a b) = f p a b

  pub by_let_in : (x : Exp) → code_num x ≡ 12 → ((p : ℕ) (a b : Exp) → P (e.let_in p a b)) → P x
  by_let_in x z f = go (coded_by 12 x z)
    where
      go : {x : Exp} → Coded 12 x → P x
      go (is_let_in p a b) = f p a b

  pub by_seq : (x : Exp) → code_num x ≡ 13 → ((p : ℕ) (a b : Exp) → P (e.seq p a b)) → P x
  by_seq x z f = go (coded_by 13 x z)
    where
      go : {x : Exp} → Coded 13 x → P x
      go (is_seq p a b) = f p a b

  pub by_add : (x : Exp) → code_num x ≡ 14 → ((p : ℕ) (a b : Exp) → P (e.add p a b)) → P x
  by_add x z f = go (coded_by 14 x z)
    where
      go : {x : Exp} → Coded 14 x → P x
      go (is_add p a b) = f p a b

  pub by_if_not0 : (x : Exp) → code_num x ≡ 15 → ((p : ℕ) (t : Ty) (a b c : Exp) → P (e.if_not0 p t a b c)) → P x
  by_if_not0 x z f = go (coded_by 15 x z)
    where
      go : {x : Exp} → Coded 15 x → P x
      go (is_if_not0 p t a b c) = f p t a b c
