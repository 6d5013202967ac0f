pub mod CrossStage
