pub mod CompressionLaws
