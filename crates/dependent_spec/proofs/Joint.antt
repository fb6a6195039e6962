-- What acceptance of both nets shows (specs/Joint), from what it shows of each.
--   joint_kernel — the kernel of both nets together is zero;  joint_exists, joint_unique — a joint solution exists, and any two are the same fractions
--   encloses_both — together, for the limits of the reckoning;  encloses_both_as — limits that agree on the first places enclose alike
use mathlib.Core.Path.{◌≡◌, sym, ap, ◌∙◌}
use Prim.Native.Nat.{ℕ, ◌*◌, ◌≤◌, ◌<◌}
use native.Mathlib.Nat.{mul-le-mul}
use lib.IntN.{ℤ, pos, ◌+ℤ◌, ◌-ℤ◌, ◌*ℤ◌, +ℤ_idr}
use Rattle.integer.proofs.Absolute.{free}
use Rattle.integer.proofs.Ring.{ring, ring₀, moves, by_zero, *-left_comm, zero-*}
use Rattle.linear.specs.Matrix.{Vec, Mat, apply}
use Rattle.linear.proofs.Product.{apply_vectors, apply_scale, apply_ext}
use Rattle.exact_solution.specs.Determined.{ZeroKernel, Determined}
use Rattle.exact_solution.proofs.Existence.{one_row}
use Rattle.entry.proofs.Limit.{entry_covers}
use Rattle.enclosure.specs.Demand.{InLimits, RightSide, Encloses}
use Rattle.enclosure.specs.Sound.{Margins}
use Rattle.enclosure.specs.Reckoning.{bound, inverse_bound}
use Rattle.enclosure.proofs.Demands.{encloses}
use Rattle.enclosure.proofs.Tolerance.{tolerated}
use Rattle.dependent_spec.specs.Nets.{Nets, dependent_of}
use Rattle.dependent_spec.specs.Reckoning.{dependent_residual, dependent_slack, dependent_bound}
use Rattle.dependent_spec.specs.Joint.{C₂₁, main_problem, dependent_problem, JointSolution, JointHeights, JointKernel, SameHeights, WithinBoth, EnclosesBoth}
use Rattle.dependent_spec.proofs.Enclosure.{dependent_within}

-- ---- laws of whole numbers
regrouped : (q q' a a' c c' : ℤ) → (q' *ℤ a -ℤ q *ℤ a') +ℤ (q' *ℤ c -ℤ q *ℤ c') ≡ q' *ℤ (a +ℤ c) -ℤ q *ℤ (a' +ℤ c')
regrouped q q' a a' c c' = simp ring

module _ (J : Nets) where
  abbrev n₁ : ℕ
  n₁ = J.main.n

  abbrev n₂ : ℕ
  n₂ = J.dependent.n

  abbrev A₁ : Mat
  A₁ = (main_problem J).A

  abbrev A₂ : Mat
  A₂ = (dependent_problem J).A

  abbrev C : Mat
  C = C₂₁ J

  module _ (kernel₁ : ZeroKernel n₁ A₁) (kernel₂ : ZeroKernel n₂ A₂) where
    -- N₁ = 0 leaves A2·N₂ = 0
    pub joint_kernel : JointKernel J
    joint_kernel N₁ N₂ h₁ h₂ = record { main = zero₁; dependent = kernel₂ N₂ (λ k l. sym (+ℤ_idr _) ∙ (ap (λ (z : ℤ). apply n₂ A₂ N₂ k +ℤ z) (sym (nothing k)) ∙ h₂ k l)) }
      where
        zero₁ : (i : ℕ) → i < n₁ → N₁ i ≡ pos 0
        zero₁ = kernel₁ N₁ h₁

        nothing : (k : ℕ) → apply n₁ C N₁ k ≡ pos 0
        nothing k =
            apply_ext n₁ C (λ (i : ℕ). pos 0 *ℤ N₁ i) N₁ k (λ i l. zero₁ i l ∙ sym (zero-* (N₁ i)))
            ∙ (apply_scale n₁ C (pos 0) N₁ k ∙ zero-* (apply n₁ C N₁ k))

    pub joint_unique : (β₁ : Vec) (ρ₁ : ℕ) (β₂ : Vec) (ρ₂ : ℕ) → 1 ≤ ρ₁ → 1 ≤ ρ₂ → (N₁ N₂ : Vec) (q : ℕ) (N₁' N₂' : Vec) (q' : ℕ) →
        JointSolution J β₁ ρ₁ β₂ ρ₂ N₁ N₂ q → JointSolution J β₁ ρ₁ β₂ ρ₂ N₁' N₂' q' → SameHeights J N₁ N₂ q N₁' N₂' q'
    joint_unique β₁ ρ₁ β₂ ρ₂ o₁ o₂ N₁ N₂ q N₁' N₂' q' x y =
        let z = joint_kernel (λ i. pos q' *ℤ N₁ i -ℤ pos q *ℤ N₁' i) (λ i. pos q' *ℤ N₂ i -ℤ pos q *ℤ N₂' i) main dependent in
        record { main = λ i l. by_zero (z.main i l); dependent = λ i l. by_zero (z.dependent i l) }
      where
        main : (k : ℕ) → k < n₁ → apply n₁ A₁ (λ (i : ℕ). pos q' *ℤ N₁ i -ℤ pos q *ℤ N₁' i) k ≡ pos 0
        main k l =
            apply_vectors n₁ A₁ (pos q') (pos q) N₁ N₁' k
            ∙ free ρ₁ _ o₁ (one_row (pos ρ₁) (pos q) (pos q') (apply n₁ A₁ N₁ k) (apply n₁ A₁ N₁' k) (β₁ k) (x.main k l) (y.main k l))

        dependent : (k : ℕ) → k < n₂ →
            apply n₂ A₂ (λ (i : ℕ). pos q' *ℤ N₂ i -ℤ pos q *ℤ N₂' i) k +ℤ apply n₁ C (λ (i : ℕ). pos q' *ℤ N₁ i -ℤ pos q *ℤ N₁' i) k ≡ pos 0
        dependent k l =
            rw (apply_vectors n₂ A₂ (pos q') (pos q) N₂ N₂' k, apply_vectors n₁ C (pos q') (pos q) N₁ N₁' k)
            (regrouped (pos q) (pos q') (apply n₂ A₂ N₂ k) (apply n₂ A₂ N₂' k) (apply n₁ C N₁ k) (apply n₁ C N₁' k)
            ∙ free ρ₂ _ o₂ (one_row (pos ρ₂) (pos q) (pos q') (apply n₂ A₂ N₂ k +ℤ apply n₁ C N₁ k) (apply n₂ A₂ N₂' k +ℤ apply n₁ C N₁' k) (β₂ k)
            (x.dependent k l) (y.dependent k l)))

  -- N₁ / q₁ of the main net, then N₂ / q₂ of the other with the right side β₂ / ρ₂ − C·N₁ / q₁, both over q₁·q₂
  pub joint_exists : Determined n₁ A₁ → Determined n₂ A₂ → (β₁ : Vec) (ρ₁ : ℕ) (β₂ : Vec) (ρ₂ : ℕ) → 1 ≤ ρ₁ → 1 ≤ ρ₂ → JointHeights J β₁ ρ₁ β₂ ρ₂
  joint_exists x y β₁ ρ₁ β₂ ρ₂ o₁ o₂ =
      let u = x.exists_over β₁ ρ₁ o₁ in
      let v = y.exists_over (λ k. pos u.q *ℤ β₂ k -ℤ pos ρ₂ *ℤ apply n₁ C u.N k) (ρ₂ * u.q) (mul-le-mul o₂ u.holds.positive) in
      record {
        N₁ = λ i. pos v.q *ℤ u.N i;
        N₂ = λ i. pos u.q *ℤ v.N i;
        q = u.q * v.q;
        holds = record {
          positive = mul-le-mul u.holds.positive v.holds.positive;
          main = λ k l. rw (apply_scale n₁ A₁ (pos v.q) u.N k) (first_row (pos ρ₁) (pos u.q) (pos v.q) (apply n₁ A₁ u.N k) (β₁ k) (u.holds.solves k l));
          dependent = λ k l. rw (apply_scale n₂ A₂ (pos u.q) v.N k, apply_scale n₁ C (pos v.q) u.N k)
              (second_row (pos ρ₂) (pos u.q) (pos v.q) (apply n₂ A₂ v.N k) (apply n₁ C u.N k) (β₂ k) (v.holds.solves k l));
        };
      }
    where
      first_row : (r p q a x : ℤ) → r *ℤ a ≡ p *ℤ x → r *ℤ (q *ℤ a) ≡ p *ℤ q *ℤ x
      first_row r p q a x e = *-left_comm r q a ∙ (ap (λ (z : ℤ). q *ℤ z) e ∙ simp ring)

      second_row : (r p q a c x : ℤ) → r *ℤ p *ℤ a ≡ q *ℤ (p *ℤ x -ℤ r *ℤ c) → r *ℤ (p *ℤ a +ℤ q *ℤ c) ≡ p *ℤ q *ℤ x
      second_row r p q a c x e = apart ∙ (ap (λ (z : ℤ). z +ℤ r *ℤ (q *ℤ c)) e ∙ joined)
        where
          apart : r *ℤ (p *ℤ a +ℤ q *ℤ c) ≡ r *ℤ p *ℤ a +ℤ r *ℤ (q *ℤ c)
          apart = simp ring

          joined : q *ℤ (p *ℤ x -ℤ r *ℤ c) +ℤ r *ℤ (q *ℤ c) ≡ p *ℤ q *ℤ x
          joined = by_zero (simp ring (simp moves (simp ring₀)))

  module _ (same : J.main.s ≡ J.dependent.s) (heavy₁ : (i : ℕ) → i < n₁ → 1 ≤ (main_problem J).w i) (heavy₂ : (i : ℕ) → i < n₂ → 1 ≤ (dependent_problem J).w i)
      (margins₁ : Margins (main_problem J)) (margins₂ : Margins (dependent_problem J)) where
    main_encloses : Encloses (main_problem J) (bound (main_problem J)) (inverse_bound (main_problem J))
    main_encloses = encloses (main_problem J) heavy₁ margins₁

    -- of the dependent net its inverse and its kernel, as in a check by itself
    own_encloses : Encloses (dependent_problem J) (bound (dependent_problem J)) (inverse_bound (dependent_problem J))
    own_encloses = encloses (dependent_problem J) heavy₂ margins₂

    within_both : (β₁ : Vec) (ρ₁ : ℕ) (β₂ : Vec) (ρ₂ : ℕ) → RightSide (main_problem J) β₁ ρ₁ → RightSide (dependent_problem J) β₂ ρ₂ →
        (N₁ N₂ : Vec) (q : ℕ) → JointSolution J β₁ ρ₁ β₂ ρ₂ N₁ N₂ q → WithinBoth J (bound (main_problem J)) (dependent_bound (dependent_of J)) N₁ N₂ q
    unfolding dependent_residual dependent_slack
    within_both β₁ ρ₁ β₂ ρ₂ t₁ t₂ N₁ N₂ q x =
        let h₁ : InLimits (main_problem J) (bound (main_problem J)) N₁ q = main_encloses.solution β₁ ρ₁ t₁ N₁ q (record { positive = x.positive; solves = x.main }) in
        let h₂ : InLimits (dependent_problem J) (dependent_bound (dependent_of J)) N₂ q =
        dependent_within (dependent_problem J) n₁ C (main_problem J).X (bound (main_problem J)) q N₁ (λ j l. rw (← same) (h₁ j l)) N₂
        (λ k l. tolerated ρ₂ q ((dependent_problem J).d k) (apply n₂ A₂ N₂ k +ℤ apply n₁ C N₁ k) ((dependent_problem J).b k) (β₂ k) t₂.positive (x.dependent k l) (t₂.near k l)) heavy₂ margins₂ in
        record {
          main = h₁;
          dependent = h₂;
          main_entry = λ i l. entry_covers J.main.s ((main_problem J).X i) (bound (main_problem J) i) (N₁ i) q (h₁ i l);
          dependent_entry = λ i l. entry_covers J.dependent.s ((dependent_problem J).X i) (dependent_bound (dependent_of J) i) (N₂ i) q (h₂ i l);
        }

    pub encloses_both : EnclosesBoth J (bound (main_problem J)) (inverse_bound (main_problem J)) (dependent_bound (dependent_of J)) (inverse_bound (dependent_problem J))
    encloses_both = record {
      main = main_encloses;
      joint = within_both;
      inverse = own_encloses.inverse;
      kernel = own_encloses.kernel;
      joint_kernel = joint_kernel main_encloses.kernel own_encloses.kernel;
      determined = own_encloses.determined;
      exists = joint_exists main_encloses.determined own_encloses.determined;
      unique = joint_unique main_encloses.kernel own_encloses.kernel;
    }

  pub encloses_both_as : (E₁ E₁' : ℕ → ℕ) (L₁ L₁' : ℕ → ℕ → ℕ) (E₂ E₂' : ℕ → ℕ) (L₂ L₂' : ℕ → ℕ → ℕ) → Encloses (main_problem J) E₁' L₁' →
      ((i : ℕ) → i < n₁ → E₁' i ≡ E₁ i) → ((i : ℕ) → i < n₂ → E₂' i ≡ E₂ i) → ((i j : ℕ) → i < n₂ → j < n₂ → L₂' i j ≡ L₂ i j) →
      EnclosesBoth J E₁ L₁ E₂ L₂ → EnclosesBoth J E₁' L₁' E₂' L₂'
  encloses_both_as E₁ E₁' L₁ L₁' E₂ E₂' L₂ L₂' main e₁ e₂ f x = record {
    main = main;
    joint = λ β₁ ρ₁ β₂ ρ₂ t₁ t₂ N₁ N₂ q y.
        let w = x.joint β₁ ρ₁ β₂ ρ₂ t₁ t₂ N₁ N₂ q y in
        record {
          main = λ i l. rw (e₁ i l) (w.main i l);
          dependent = λ i l. rw (e₂ i l) (w.dependent i l);
          main_entry = λ i l. rw (e₁ i l) (w.main_entry i l);
          dependent_entry = λ i l. rw (e₂ i l) (w.dependent_entry i l);
        };
    inverse = λ H q h i j li lj. rw (f i j li lj) (x.inverse H q h i j li lj);
    kernel = x.kernel;
    joint_kernel = x.joint_kernel;
    determined = x.determined;
    exists = x.exists;
    unique = x.unique;
  }
