-- A machine as stored data, as which proofs tell machines apart.
use Rattle.std.specs.Prelude.{◌≡◌, ℕ, Bool, List, Option, Some, None, refl}
use Rattle.std.specs.Coded.{Coded, code_by, coded×, coded_ℕ, coded_bool, coded_list, coded_option}
use Rattle.std.specs.FinMap as map
use Rattle.rv_exec.specs.Memory.{Words, Buffers, Every, Mapped}
use Rattle.rv_machine.specs.Machine.{Machine}

abbrev bounds : Buffers → Option (ℕ × ℕ)
bounds Every = None
bounds (Mapped low heap_low) = Some (low, heap_low)

abbrev buffers : Option (ℕ × ℕ) → Buffers
buffers None = Every
buffers (Some b) = Mapped b.0 b.1

pub buffers-bounds : (b : Buffers) → buffers (bounds b) ≡ b
buffers-bounds Every = refl
buffers-bounds (Mapped low heap_low) = refl

abbrev pub buffers_code : Coded Buffers
buffers_code = code_by (Option (ℕ × ℕ)) (coded_option (coded× coded_ℕ coded_ℕ)) bounds buffers buffers-bounds

abbrev pub words_code : Coded Words
words_code = map.code coded_ℕ coded_ℕ

abbrev pub registers_code : Coded (ℕ × (List ℕ × (ℕ × (ℕ × Option ℕ))))
registers_code =
    coded× coded_ℕ (coded× (coded_list coded_ℕ) (coded× coded_ℕ (coded× coded_ℕ (coded_option coded_ℕ))))

abbrev pub machine_code : Coded Machine
machine_code =
    code_by ((ℕ × (List ℕ × (ℕ × (ℕ × Option ℕ)))) × ((Words × Buffers) × (Bool × List ℕ)))
    (coded× registers_code (coded× (coded× words_code buffers_code) (coded× coded_bool (coded_list coded_ℕ))))
    (λ m. ((m.state.pc, (m.state.regs, (m.state.brk, (m.state.heap_low, m.state.exit)))), ((m.state.words, m.state.buffers), (m.keeps, m.output))))
    (λ c. record {
      state = record {
        pc = c.0.0;
        regs = c.0.1.0;
        brk = c.0.1.1.0;
        heap_low = c.0.1.1.1.0;
        exit = c.0.1.1.1.1;
        words = c.1.0.0;
        buffers = c.1.0.1;
      };
      keeps = c.1.1.0;
      output = c.1.1.1;
    })
    (λ _. refl)
