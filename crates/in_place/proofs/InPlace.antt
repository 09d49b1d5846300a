-- A record that is lent by `&mut` is moved on in place by two numbers, and what it then shows is the answer:
--     fn step(w: &mut R, a: u32, b: u32) -> E { let n = stepped(*w, a, b); *w = n; shows(n) }
-- It meets its contract, for every struct R that owns only facts and every enum E: a walk of its MIR, by hand. The borrow is opened, the record is
-- copied out whole and passed to `stepped`, what that returned is stored over the record, the borrow is closed there, and a copy is passed to `shows`.
-- The record's machine value is never taken apart. All that the proof knows of `stepped` and `shows` is that they meet their contracts.
use mathlib.Core.Path.{◌≡◌, refl, ap, ◌∙◌}
use Prim.Native.Nat.{ℕ, ◌<◌, ◌^◌}
use mathlib.Core.List.{[], ◌∷◌, List}
use seplogic.Ra.Ura.{Ura}
use base.Fraction.{full_share}
use mir.Syntax.{named, w32, mut, deref, place, copy, rv_opd, seq, assign, call, return, local, value_local, ty_int, ty_ref, ty_named, Ty, Fn}
use mir.Val.{Val, vint, vptr}
use base.Logic.{SProp, ent, sep, emp, via, fst∗, snd∗, assoc∗, ex_e, id⊢}
use base.Fml.{GName, Lft, Share, ftrue, flft, fobs, fbor}
use prog.Model.{Model}
use prog.Routine.{Callee, Routine, Env}
use prog.Wp.{Calls, Loops, WpFn, Tables, Closed}
use types.Logic.{Logic, sem}
use contract.Monad.{fact}
use contract.Running.{Running, tables, tables_of}
use types.Kit.{‵, raw, ◌⊛◌, some, later, ◌$◌, ◌∵◌, !, qed, by, move, keep, drop, use1, split, join, pick, fsplit, fsplit3, fjoin, fjoin3, feq_i, suffices, frame, await, done}
use types.Run.{look, look_raw, init, store_raw, forget, stop, hop, from, load, and_then, no_more, of_opd, assigns, land, returns, enter, alloc1, alloc0, params1, pass1, pass0, free1, free0}
use types.SemTy as SemTy
use sound.WpLaws.{FmC, fm_of, WpFn-mono}
use denote.RattleType.{RattleType, owns, writtens}
use denote.Laws.{Is, shows as shows-of}
use denote.Memory.{mem}
use denote.Plain.{uint_vals, uint_Tells, uint_Makes}
use denote.Builtin.{u32, RefMutOf}
use denote.Ref.{MutBor, MutRef, mut_vals, mut_Tells}
use denote.Signature.{Signature, plain}
use denote.Steps.{opens, closes, owned, peeks, heard, nothing}
use denote.Struct.Struct.{Plains}
use denote.Struct.Struct as Struct
use denote.Struct.Steps.{spelt}
use denote.Struct.Declared as SD
use denote.Struct.Laws as LL
use denote.Enum.Enum as Enum
use denote.Enum.Declared as ED
use denote.Enum.Laws as EL
use denote.Triple.Statement.{Contract, Triple}
use denote.Triple.Call.{calls_at}
use denote.Triple.Clauses.{Ended, Clauses, ensured, lasts, closing}
use denote.Triple.Entry.{on_entry}
use denote.Triple.Spec.{triple_of}
use denote.Triple.Table.{entered, cited}
use denote.Triple.Walked.{says, Stays, stay_ref, stay_none, walk_of, AllGo, Goes-none, Goes-ref, Walks, on_exit, ends_at, walked, walk_Meets}
use denote.Exit.{yes}

-- the record R and what it shows, E, with their laws; and what the contracts say: where a step leads, what else is said of that, and what a record
-- shows
module _ (R : SD.Declared) (RL : LL.Laws R) (plains : Plains (SD.fields R)) (E : ED.Declared) (XL : EL.Laws E) (few : Enum.Few (ED.shape E))
    (next : R.D → ℕ → ℕ → R.D) (Said : R.D → ℕ → ℕ → R.D → Type 0) (shown : R.D → E.D) where
  abbrev Row : RattleType
  Row = SD.row R

  abbrev XRow : RattleType
  XRow = ED.row E

  -- ---- the signatures of `stepped`, `shows` and `step`, and their contracts
  abbrev stepped_sig : Signature
  stepped_sig = record { lifetimes = 0; outlives = []; params = plain (λ κs. Row) ∷ plain (λ κs. u32) ∷ plain (λ κs. u32) ∷ []; result = plain (λ κs. Row) }

  abbrev stepped_ended : Ended
  stepped_ended = record { signature = stepped_sig; kept = (yes, (yes, (yes, tt))) }

  abbrev shows_sig : Signature
  shows_sig = record { lifetimes = 0; outlives = []; params = plain (λ κs. Row) ∷ []; result = plain (λ κs. XRow) }

  abbrev shows_ended : Ended
  shows_ended = record { signature = shows_sig; kept = (yes, tt) }

  abbrev step_sig : Signature
  step_sig = record {
    lifetimes = 1;
    outlives = [];
    params = RefMutOf (0 ∷ []) tt (plain (λ κs. Row)) (λ κs. tt) ∷ plain (λ κs. u32) ∷ plain (λ κs. u32) ∷ [];
    result = plain (λ κs. XRow);
  }

  abbrev step_ended : Ended
  step_ended = record { signature = step_sig; kept = (yes, (yes, (yes, tt))) }

  module _ {M : Type 1} (𝓤 : Ura M) where
    abbrev stepped_clauses : Clauses 𝓤 stepped_ended
    stepped_clauses = λ κs x. record {
      ghost = Unit {0};
      requires = λ g. emp 𝓤;
      ensures = λ g r ends. sep 𝓤 (fact 𝓤 (r ≡ next x.0 x.1.0 x.1.1.0)) (fact 𝓤 (Said x.0 x.1.0 x.1.1.0 r));
    }

    abbrev shows_clauses : Clauses 𝓤 shows_ended
    shows_clauses = λ κs x. record { ghost = Unit {0}; requires = λ g. emp 𝓤; ensures = λ g s ends. fact 𝓤 (s ≡ shown x.0) }

    abbrev step_clauses : Clauses 𝓤 step_ended
    step_clauses = λ κs x. record {
      ghost = Unit {0};
      requires = λ g. emp 𝓤;
      ensures = λ g s ends. sep 𝓤 (fact 𝓤 (ends.0.now ≡ next x.0.now x.1.0 x.1.1.0))
          (sep 𝓤 (fact 𝓤 (Said x.0.now x.1.0 x.1.1.0 ends.0.now)) (fact 𝓤 (s ≡ shown (next x.0.now x.1.0 x.1.1.0))));
    }

  module _ {M : Type 1} {𝓤 : Ura M} (𝓛 : Logic 𝓤) where
    abbrev Stepped : Contract 𝓤
    Stepped = triple_of 𝓛 stepped_sig (closing 𝓛 stepped_ended (stepped_clauses 𝓤))

    abbrev Shows : Contract 𝓤
    Shows = triple_of 𝓛 shows_sig (closing 𝓛 shows_ended (shows_clauses 𝓤))

    abbrev Step : Contract 𝓤
    Step = triple_of 𝓛 step_sig (closing 𝓛 step_ended (step_clauses 𝓤))

    shown_of : (h : R.D) (s : E.D) → ent 𝓤 (ensured 𝓛 shows_ended (shows_clauses 𝓤) tt (h, tt) tt s) (fact 𝓤 (s ≡ shown h))
    shown_of h s = ex_e 𝓤 _ (λ ws. snd∗ 𝓤 (sem 𝓛 (lasts shows_ended tt (h, tt) ws)) (fact 𝓤 (s ≡ shown h)))

    stepped_of : (h : R.D) (n m : ℕ) (r : R.D)
        → ent 𝓤 (ensured 𝓛 stepped_ended (stepped_clauses 𝓤) tt (h, (n, (m, tt))) tt r) (sep 𝓤 (fact 𝓤 (r ≡ next h n m)) (fact 𝓤 (Said h n m r)))
    stepped_of h n m r = ex_e 𝓤 _ (λ ws. snd∗ 𝓤 (sem 𝓛 (lasts stepped_ended tt (h, (n, (m, tt))) ws)) (sep 𝓤 (fact 𝓤 (r ≡ next h n m)) (fact 𝓤 (Said h n m r))))

  abbrev stayed : Stays step_ended.signature.params step_ended.kept
  stayed = (stay_ref (0 ∷ []) tt (plain (λ κs. Row)), (stay_none (λ κs. u32) yes, (stay_none (λ κs. u32) yes, tt)))

  -- the machine value of a record
  abbrev mach : R.D → Val
  mach h = LL.tuple_val R RL (R.to h)

  -- ---- the code of `step`, by the names of the functions that it calls
  abbrev whole : Ty
  whole = Struct.layout (SD.shape R)

  abbrev function : (stepped shows : Callee) → Fn
  function stepped shows = record {
    lifetimes = 1;
    outlives = [];
    ty_params = [];
    givens = 0;
    params = 3;
    locals = local (Enum.layout (ED.shape E)) value_local ∷ local (ty_ref (named 0) mut (ty_named (R.name, R.args) (writtens R.types))) value_local ∷ local (ty_int w32) value_local
        ∷ local (ty_int w32) value_local ∷ local whole value_local ∷ local whole value_local ∷ [];
    body = seq (assign (place 5 []) (rv_opd (copy (place 1 (deref whole ∷ [])))))
        (seq (call stepped (copy (place 5 []) ∷ copy (place 2 []) ∷ copy (place 3 []) ∷ []) (place 4 []))
        (seq (assign (place 1 (deref whole ∷ [])) (rv_opd (copy (place 4 []))))
        (seq (call shows (copy (place 4 []) ∷ []) (place 0 [])) return)));
  }

  module _ {M : Type 1} {𝓤 : Ura M} (𝓛 : Logic 𝓤) where
    open 𝓛 use {H, A}

    module _ (κ : Lft) (q : Share) (b o : ℕ) (γ : GName) (h : R.D) (n m : ℕ) where
      abbrev x : MutBor R.D × (ℕ × (ℕ × Unit {0}))
      x = (record { ref_ptr = (b, o); ghost_name = γ; now = h }, (n, (m, tt)))

      abbrev at : List Val × (List Val × (List Val × Unit {0}))
      at = (vptr b o ∷ [], (vint w32 n ∷ [], (vint w32 m ∷ [], tt)))

      abbrev Post : Val → SProp 𝓤
      Post = (walk_of 𝓛 step_ended stayed (step_clauses 𝓤)).post (((κ, tt), (q, tt), tt, x, at), tt)

      -- what is left to show at the end beside the three clauses, and the clauses
      abbrev Left : R.D → E.D → Val → SProp 𝓤
      Left r s u = on_exit 𝓛 step_ended stayed (κ, tt) (q, tt) at u s x (r, (tt, (tt, tt)))

      abbrev Walked : R.D → SProp 𝓤
      Walked r = fact 𝓤 (r ≡ next h n m)

      abbrev Spoken : R.D → SProp 𝓤
      Spoken r = fact 𝓤 (Said h n m r)

      abbrev Showed : E.D → SProp 𝓤
      Showed s = fact 𝓤 (s ≡ shown (next h n m))

      exits : n < 2 ^ 32 → m < 2 ^ 32 → (r : R.D) → r ≡ next h n m → Said h n m r → (s : E.D) (u : Val) → s ≡ shown r
          → ent 𝓤 (sep 𝓤 (A.obs γ (Row.coded.code r))
          (sep 𝓤 (A.bor κ (SemTy.Body (mem Row) b o γ)) (sep 𝓤 (A.lft κ q) (sem 𝓛 (XRow.own_val s (u ∷ [])))))) (Post u)
      exits fits fits' r e said s u e' =
          qed 𝓛 (‵ (fobs γ (Row.coded.code r)) ∷ ‵ (fbor κ (SemTy.Body (mem Row) b o γ)) ∷ ‵ (flft κ q) ∷ ‵ (XRow.own_val s (u ∷ [])) ∷ []) ∵
          suffices ! _ (ends_at 𝓛 step_ended stayed (step_clauses 𝓤) (((κ, tt), (q, tt), tt, x, at), tt) u s (r, (tt, (tt, tt))) (tt, (tt, (tt, tt)))) $
          suffices ! _ (assoc∗ 𝓤 (Left r s u) (Walked r) (sep 𝓤 (Spoken r) (Showed s))) $
          suffices ! _ (assoc∗ 𝓤 (sep 𝓤 (Left r s u) (Walked r)) (Spoken r) (Showed s)) $
          says ! (e' ∙ ap shown e) $ says ! said $ says ! e $ nothing ! $ move ! (3 ∷ 0 ∷ []) $ join ! $
          frame ! $ feq_i ! (List Val) (vptr b o ∷ []) (vptr b o ∷ []) refl $ fjoin3 ! $ nothing ! $
          owned ! u32 (Is u32) (uint_Makes 𝓛 w32) m _ (refl, fits') $ fjoin ! $ owned ! u32 (Is u32) (uint_Makes 𝓛 w32) n _ (refl, fits) $
          fjoin ! $ move ! (1 ∷ 0 ∷ []) $ fjoin ! $ done !

      -- what `stepped`'s triple binds outside, and what it asks: a copy of the record, and the numbers
      abbrev to_stepped : (Stepped 𝓛).Ghost
      to_stepped = ((tt, tt, tt, (h, (n, (m, tt))), (mach h ∷ [], (vint w32 n ∷ [], (vint w32 m ∷ [], tt)))), tt)

      goes_stepped : n < 2 ^ 32 → m < 2 ^ 32 → Is Row h (mach h ∷ []) → ent 𝓤 (sem 𝓛 ftrue) ((Stepped 𝓛).pre to_stepped)
      goes_stepped fits fits' g =
          qed 𝓛 (‵ ftrue ∷ []) ∵ owned ! u32 (Is u32) (uint_Makes 𝓛 w32) m _ (refl, fits') $ fjoin ! $
          owned ! u32 (Is u32) (uint_Makes 𝓛 w32) n _ (refl, fits) $ fjoin ! $
          owned ! Row (Is Row) (LL.makes R plains 𝓛) h _ g $ fjoin ! $ nothing ! $ join ! $ frame ! $ done !

      -- the same of `shows`: a copy of the record that `stepped` returned
      abbrev to_shows : R.D → Val → (Shows 𝓛).Ghost
      to_shows r v = ((tt, tt, tt, (r, tt), (v ∷ [], tt)), tt)

      goes_shows : (r : R.D) (v : Val) → Is Row r (v ∷ []) → ent 𝓤 (sem 𝓛 ftrue) ((Shows 𝓛).pre (to_shows r v))
      goes_shows r v g =
          qed 𝓛 (‵ ftrue ∷ []) ∵ owned ! Row (Is Row) (LL.makes R plains 𝓛) r _ g $ fjoin ! $ nothing ! $
          join ! $ frame ! $ done !

      module _ (C : Calls 𝓤 H) (Λ : Loops 𝓤 H) (fm : FmC 𝓤 H 𝓛.laws C) (stepped shows : Callee)
          (known : Triple 𝓤 (C stepped) (Stepped 𝓛)) (known-shows : Triple 𝓤 (C shows) (Shows 𝓛)) where
        walk : n < 2 ^ 32 → m < 2 ^ 32
            → ent 𝓤 (on_entry 𝓛 step_sig (κ, tt) (q, tt) x at) (WpFn 𝓤 H C Λ (function stepped shows) (vptr b o ∷ vint w32 n ∷ vint w32 m ∷ []) Post)
        walk fits fits' =
            qed 𝓛 ((‵ (flft κ q) ⊛ ‵ ftrue) ∷ ‵ (owns (MutRef (named 0) κ Row ∷ u32 ∷ u32 ∷ []) x at) ∷ []) ∵ split ! $ move ! (2 ∷ []) $
            fsplit ! $ fsplit3 ! $ drop ! $ move ! (0 ∷ 1 ∷ 3 ∷ []) $
            -- [obs; the borrow; the token; what the numbers own; true]
            enter ! C Λ (function stepped shows) (vptr b o ∷ vint w32 n ∷ vint w32 m ∷ []) _ $
            alloc1 ! (λ l₀. alloc1 ! (λ l₁. alloc1 ! (λ l₂. alloc1 ! (λ l₃. alloc1 ! (λ l₄. alloc1 ! (λ l₅. alloc0 ! $ params1 ! $
            pass1 ! (init ! 8 refl (tt, tt)) $ pass1 ! (init ! 6 refl (tt, record { fits = fits })) $
            pass1 ! (init ! 4 refl (tt, record { fits = fits' })) $ pass0 ! $
            move ! (12 ∷ 13 ∷ 14 ∷ []) $
            opens ! tt Row {h = h} b o (λ vs.
            spelt ! Row (Is Row) (shows-of 𝓛 Row) (LL.vals R RL) (LL.tells R RL) full_share h vs b o $
            move ! (1 ∷ []) $ peeks ! Row (Is Row) (shows-of 𝓛 Row) h (mach h ∷ []) (λ g. move ! (1 ∷ 0 ∷ []) $
            -- [the record's cell; what the record owns; the open borrow; obs; auth; _5; …; _4; …; _3; …; _2; …; _1; …; room for _0; …]
            assigns ! (of_opd ! (load ! (from ! (hop ! (look ! 13 refl) (stop !))) (look_raw ! 0 refl))) (from ! (stop !))
            (init ! 5 refl ((LL.lawful R RL 𝓛).typed h _ g).0) $
            nothing ! $ use1 𝓛 (raw ((Stepped 𝓛).pre to_stepped)) (goes_stepped fits fits' g) $
            -- [what `stepped` asks; the record's cell; what the record owns; the open borrow; obs; auth; _5; …; _4; …; _3; …; _2; …; _1; …; room for _0; …]
            calls_at ! fm (Stepped 𝓛) known to_stepped
            (and_then ! (load ! (from ! (stop !)) (look ! 6 refl)) (and_then ! (load ! (from ! (stop !)) (look ! 12 refl)) (and_then ! (load ! (from ! (stop !)) (look ! 10 refl)) (no_more !)))) (λ v.
            use1 𝓛 (later (some (λ (r : R.D). (‵ ftrue ⊛ ‵ (Row.own_val r (v ∷ [])))
            ⊛ raw (ensured 𝓛 stepped_ended (stepped_clauses 𝓤) tt (h, (n, (m, tt))) tt r)))) (id⊢ 𝓤 _) $ await ! tt $ pick ! (λ r.
            split ! $ move ! (1 ∷ []) $ use1 𝓛 (raw (fact 𝓤 (r ≡ next h n m)) ⊛ raw (fact 𝓤 (Said h n m r))) (stepped_of 𝓛 h n m r) $ split ! $
            heard ! (r ≡ next h n m) (λ e. heard ! (Said h n m r) (λ said. split ! $ drop ! $
            peeks ! Row (Is Row) (shows-of 𝓛 Row) r (v ∷ []) (λ is.
            -- [what r owns; the record's cell; what the record owned; the open borrow; obs; auth; _5; …; _4; …; _3; …; _2; …; _1; …; room for _0; …]
            land ! (from ! (stop !)) (init ! 8 refl ((LL.lawful R RL 𝓛).typed r _ is).0) $
            assigns ! (of_opd ! (load ! (from ! (stop !)) (look ! 8 refl))) (from ! (hop ! (look ! 14 refl) (stop !)))
            (store_raw ! 1 refl ((LL.lawful R RL 𝓛).typed r _ is).0) $
            move ! (2 ∷ []) $ drop ! $ move ! (1 ∷ 0 ∷ []) $ closes ! tt Row r (v ∷ []) b o $
            -- [obs; the borrow; the token; _5; …; _4; …; _3; …; _2; …; _1; …; room for _0; …]
            nothing ! $ use1 𝓛 (raw ((Shows 𝓛).pre (to_shows r v))) (goes_shows r v is) $
            calls_at ! fm (Shows 𝓛) known-shows (to_shows r v) (and_then ! (load ! (from ! (stop !)) (look ! 6 refl)) (no_more !)) (λ u.
            use1 𝓛 (later (some (λ (s : E.D). (‵ ftrue ⊛ ‵ (XRow.own_val s (u ∷ [])))
            ⊛ raw (ensured 𝓛 shows_ended (shows_clauses 𝓤) tt (r, tt) tt s)))) (id⊢ 𝓤 _) $ await ! tt $ pick ! (λ s.
            split ! $ move ! (1 ∷ []) $ use1 𝓛 (raw (fact 𝓤 (s ≡ shown r))) (shown_of 𝓛 r s) $
            heard ! (s ≡ shown r) (λ e'. split ! $ drop ! $
            peeks ! XRow (Is XRow) (shows-of 𝓛 XRow) s (u ∷ []) (λ is'.
            -- [what s owns; obs; the borrow; the token; _5; …; _4; …; _3; …; _2; …; _1; …; room for _0; …]
            land ! (from ! (stop !)) (init ! 14 refl ((EL.lawful E XL 𝓛 few).typed s _ is').0) $
            returns ! (look ! 14 refl) $ forget ! 4 refl $ forget ! 6 refl $ forget ! 8 refl $ forget ! 10 refl $ forget ! 12 refl $ forget ! 14 refl $
            move ! (14 ∷ 15 ∷ []) $ free1 ! $ move ! (12 ∷ 13 ∷ []) $ free1 ! $ move ! (10 ∷ 11 ∷ []) $ free1 ! $ move ! (8 ∷ 9 ∷ []) $ free1 ! $
            move ! (6 ∷ 7 ∷ []) $ free1 ! $ move ! (4 ∷ 5 ∷ []) $ free1 ! $ free0 ! $
            keep ! (1 ∷ 2 ∷ 3 ∷ 0 ∷ []) $ by ! (exits fits fits' r e said s u e'))))))))))))))))))

    step_walks : (C : Calls 𝓤 H) (Λ : Loops 𝓤 H) → FmC 𝓤 H 𝓛.laws C → (stepped shows : Callee)
        → Triple 𝓤 (C stepped) (Stepped 𝓛) → Triple 𝓤 (C shows) (Shows 𝓛)
        → Walks 𝓛 step_ended stayed (WpFn 𝓤 H C Λ (function stepped shows)) (step_clauses 𝓤)
    step_walks C Λ fm stepped shows known known-shows =
        walked 𝓛 step_ended stayed (step_clauses 𝓤) (WpFn 𝓤 H C Λ (function stepped shows))
        (λ κs. (mut_vals, (uint_vals w32, (uint_vals w32, tt)))) (λ κs. (mut_Tells (named 0) κs.0 Row, (uint_Tells w32, (uint_Tells w32, tt))))
        (λ κs qs bounds a _ are. via 𝓤 _ (fst∗ 𝓤 _ (emp 𝓤))
        (walk κs.0 qs.0 a.0.ref_ptr.0 a.0.ref_ptr.1 a.0.ghost_name a.0.now a.1.0 a.1.1.0 C Λ fm stepped shows known known-shows are.1.0.1 are.1.1.0.1))

    goes : AllGo 𝓛 1 step_sig.params step_ended.kept stayed
    goes = (
      Goes-ref 𝓛 1 0 tt (plain (λ κs. Row)),
      (Goes-none 𝓛 1 (λ κs. u32) yes (λ κs x f. refl), (Goes-none 𝓛 1 (λ κs. u32) yes (λ κs x f. refl), tt)),
    )

    meets : (𝓣 : Tables 𝓤 H) (stepped shows : Callee)
        → Triple 𝓤 (𝓣.C stepped) (Stepped 𝓛) → Triple 𝓤 (𝓣.C shows) (Shows 𝓛)
        → Triple 𝓤 (WpFn 𝓤 H 𝓣.C 𝓣.Λ (function stepped shows)) (Step 𝓛)
    meets 𝓣 stepped shows known known-shows =
        walk_Meets 𝓛 step_ended stayed goes (step_clauses 𝓤) (WpFn 𝓤 H 𝓣.C 𝓣.Λ (function stepped shows))
        (WpFn-mono 𝓤 H 𝓛.laws 𝓣 (function stepped shows))
        (step_walks 𝓣.C 𝓣.Λ (fm_of 𝓤 H 𝓛.laws 𝓣) stepped shows known known-shows)

  -- and so does the routine, in the environment that its code has
  pub in_place : {M : Type 1} {𝓤 : Ura M} (𝓛 : Logic 𝓤) (𝓜 : Model 𝓤 𝓛.H) (𝓡 : Running 𝓤 𝓛.H 𝓜) (γ : Env) (step stepped shows : Callee)
      → Closed 𝓤 𝓛.H (tables 𝓤 𝓛.H 𝓜 𝓡 γ).C (tables 𝓤 𝓛.H 𝓜 𝓡 γ).Λ step (function stepped shows)
      → {r s : Routine} → γ stepped ≡ r → γ shows ≡ s
      → Triple 𝓤 (𝓡.run r) (Stepped 𝓛) → Triple 𝓤 (𝓡.run s) (Shows 𝓛) → Triple 𝓤 (𝓡.run (γ step)) (Step 𝓛)
  unfolding tables_of
  in_place {𝓤 = 𝓤} 𝓛 𝓜 𝓡 γ step stepped shows closed p p' known known-shows =
      entered 𝓤 𝓛.H (Step 𝓛) (tables 𝓤 𝓛.H 𝓜 𝓡 γ).C (tables 𝓤 𝓛.H 𝓜 𝓡 γ).Λ step (function stepped shows) closed
      (meets 𝓛 (tables_of 𝓤 𝓛.H 𝓜 (tables 𝓤 𝓛.H 𝓜 𝓡 γ)) stepped shows
      (cited 𝓤 𝓛.H (Stepped 𝓛) 𝓜 𝓡 γ stepped _ p known) (cited 𝓤 𝓛.H (Shows 𝓛) 𝓜 𝓡 γ shows _ p' known-shows))
